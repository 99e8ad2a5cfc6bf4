-- SECTION (a): each public promise determines the result and every lent byte afterwards, refusals too. Here the theorem "two allowed results are
-- equal" of every public function of the crates below is gathered by name (those of `capi`, which stands above, are in its proofs/Unique.antt);
-- docs/PROMISES.md maps each function to its own. For the part that `fields::body_of` returns it says that two allowed results are equal in where
-- they lie and in their bytes, which is all that a reference is. Assumes nothing.
pub use Rattle.terms.proofs.Unique.{refusal_number_unique, at_unique, number_in_unique, place_in_unique}
pub use Rattle.register.proofs.Unique.{initial_unique, move_unique}
pub use Rattle.fields.proofs.Unique.{limit_unique, body_length_unique, knows_unique, fits_unique, byte_unique, number_unique, body_unique, field_unique, number_of_unique, place_of_unique, head_unique, put_field_unique, put_field_at_unique, put_event_unique, event_unique, place_new_unique, place_next_unique, place_moved_unique, place_at_unique, tag_unique, walk_unique, walk_next_unique, known_unique, known_next_unique}
pub use Rattle.replay.proofs.Theorems.{run_unique}
pub use Rattle.judge.proofs.Unique.{judge_unique, numbers_unique, printed_unique}
