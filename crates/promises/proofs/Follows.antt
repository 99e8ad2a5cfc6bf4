-- Each move of the contract that is not refused keeps what the state says of the events so far, with the move's events behind them.
-- Assumes nothing.
use mathlib.Core.Path.{◌≡◌, refl}
use mathlib.Core.Bool.{Bool, true, not}
use mathlib.Core.List.{List, [], ◌∷◌, ◌++◌, append-nil}
use mathlib.Core.Option.{some}
use Prim.Native.Nat.{ℕ, zero, suc, ◌≤◌, ◌<◌}
use native.Mathlib.Omega.{arith}
use lib.Dec.{eqb}
use lib.ListN.{length, get_or, get_elem?}
use Rattle.terms.specs.Value.{Value, no_value}
use Rattle.terms.proofs.Tests.{if_case}
use Rattle.history.specs.Events as plain
use Rattle.history.specs.Numbered.{without_numbers}
use Rattle.history.specs.Operations.{count, ends_read}
use Rattle.history.proofs.Choice.{Holds}
use Rattle.history.proofs.Least.{put}
use Rattle.history.proofs.Written.{written, holds_at}
use Rattle.register.specs.declared.State.{State}
use Rattle.register.specs.declared.Move.{Move}
use Rattle.register.specs.declared.Move.TheVariants.{WriterStart, WriterStep, WriterFlicker, ReaderStep, ReaderFlicker}
use Rattle.register.specs.Move.{Moved, step_of, start_rows, writer_rows, writer_flicker_rows, reader_rows, reader_flicker_rows}
use Rattle.register.proofs.Cases.{rows_case, ◌⨾◌}
use Rattle.invariants.specs.Held.{Held}
use Rattle.invariants.proofs.Preserved.{Lawful}
use Rattle.replay.specs.Run.{events_of}
use Rattle.promises.specs.SeenNumbers.{read_numbers}
use Rattle.promises.proofs.SoFar.{SoFar, writes_before, write_begins, write_ends, read_begins, read_ends}

-- What of a state the events so far are tied to.
pub record Marks : Type 0 where
  pub writing : Bool
  pub reading : Bool
  pub numberw : ℕ
  pub masq : ℕ
  pub startr : ℕ

-- A write is open where q is not 20, a read where r is not 40.
abbrev pub marks : State → Marks
marks s = record { writing = not (eqb s.q 20); reading = not (eqb s.r 40); numberw = s.numberw; masq = s.masq; startr = s.startr }

pub record Tracked (v : Value) (m : Marks) (x : List (plain.Event Value)) (numbers : List ℕ) : Type 0 where
  pub k : ℕ → ℕ
  pub so_far : SoFar v x numbers k m.writing m.reading m.numberw m.masq m.startr

-- The value of an index that a list has.
there : (xs : List Value) (i : ℕ) → i < length xs → get_elem? xs i ≡ some (get_or xs i no_value)
there [] i h = absurd (omega arith)
there (x ∷ xs) zero h = refl
there (x ∷ xs) (suc i) h = there xs i (omega arith)

module _ (v : Value) (x : List (plain.Event Value)) (numbers : List ℕ) where
  -- The reader's value is the one that the register holds after the writes that stand before its number.
  reader_holds : (s : State) → Held s (v ∷ written x) → s.numberr ≤ s.numberw → Holds v x (writes_before s.numberr) s.value
  reader_holds s h to = rw h.value ((holds_at v x (writes_before s.numberr) _).0 (there (v ∷ written x) (writes_before s.numberr) (omega (arith, h.count))))

  module _ (s : State) (lawful : Lawful s) (held : Held s (v ∷ written x)) (T : Tracked v (marks s) x numbers) where
    -- The move m leads from s to t: t is tracked, with the move's events behind the others.
    pub record Follows (m : Move) (t : State) : Type 0 where
      pub tracked : Tracked v (marks t) (x ++ without_numbers (events_of s m)) (numbers ++ read_numbers (events_of s m))

    -- An answer: if it is good, its state follows.
    abbrev After : Move → Moved → Type 0
    After m a = a.number ≡ 0 → Follows m a.state

    -- no event, and the same marks
    still : (m : Move) {t : State} → events_of s m ≡ [] → marks t ≡ marks s → Follows m t
    still m none same = record { tracked = rw (none, append-nil x, append-nil numbers, same) T }

    pub step_follows : (m : Move) → After m (step_of m s)
    unfolding events_of
    step_follows (WriterStart y) =
        rows_case (After (WriterStart y)) s.q (start_rows y s) s
        ((λ e. if_case (After (WriterStart y)) (eqb s.numberw 65535) (λ t h. absurd (omega arith)) (λ t h. record {
          tracked = rw (append-nil numbers) (record {
            k = T.k;
            so_far = write_begins v x numbers T.k s.numberw s.masq s.startr y _ (rw e at T.so_far);
          });
        })) ⨾ tt)
        (λ h. absurd (omega arith))
    step_follows WriterStep =
        rows_case (After WriterStep) s.q (writer_rows s) s
        ((λ e h. still WriterStep (rw e) (rw e))
        ⨾ (λ e h. if_case (Follows WriterStep) (eqb s.aw s.rr) (λ t. still WriterStep (rw e) (rw e)) (λ t. still WriterStep (rw e) (rw e)))
        ⨾ (λ e h. still WriterStep (rw e) (rw e))
        ⨾ (λ e h. still WriterStep (rw e) (rw e))
        ⨾ (λ e h. if_case (Follows WriterStep) (eqb s.aw s.rr) (λ t. still WriterStep (rw e) (rw e)) (λ t. still WriterStep (rw e) (rw e)))
        ⨾ (λ e h. still WriterStep (rw e) (rw e))
        ⨾ (λ e h. record {
          tracked = rw (e, append-nil numbers) (record {
            k = T.k;
            so_far = write_ends v x numbers T.k s.numberw s.masq s.startr _ _ (omega arith) (omega arith) (rw e at T.so_far);
          });
        })
        ⨾ tt)
        (λ h. absurd (omega arith))
    step_follows (WriterFlicker b) =
        rows_case (After (WriterFlicker b)) s.q (writer_flicker_rows b s) s
        ((λ e h. still (WriterFlicker b) refl refl) ⨾ (λ e h. still (WriterFlicker b) refl refl) ⨾ (λ e h. still (WriterFlicker b) refl refl) ⨾ tt)
        (λ h. absurd (omega arith))
    step_follows ReaderStep =
        rows_case (After ReaderStep) s.r (reader_rows s) s
        ((λ e h. if_case (Follows ReaderStep) (eqb s.br s.ww) (λ t. began e refl) (λ t. began e refl))
        ⨾ (λ e h. still ReaderStep (rw e) (rw e))
        ⨾ (λ e h. still ReaderStep (rw e) (rw e))
        ⨾ (λ e h. still ReaderStep (rw e) (rw e))
        ⨾ (λ e h. record {
          tracked = rw e (record {
            k = put T.k (count ends_read x) (writes_before s.numberr);
            so_far = read_ends v x numbers T.k s.numberw s.masq s.startr _ s.value s.numberr _
                (rw e at lawful.invariants.jq1) lawful.invariants.kq3 (reader_holds s held lawful.invariants.kq3) (omega arith) (omega arith)
                (rw e at T.so_far);
          });
        })
        ⨾ tt)
        (λ h. absurd (omega arith))
      where
        -- step 40, to 41 or to 44
        began : {t : State} → s.r ≡ 40
            → marks t ≡ record { writing = not (eqb s.q 20); reading = true; numberw = s.numberw; masq = s.masq; startr = s.masq } → Follows ReaderStep t
        began e same = record {
          tracked = rw (e, append-nil numbers, same) (record {
            k = T.k;
            so_far = read_begins v x numbers T.k s.numberw s.masq s.startr _ (rw e at T.so_far);
          });
        }
    step_follows (ReaderFlicker b) =
        rows_case (After (ReaderFlicker b)) s.r (reader_flicker_rows b s) s ((λ e h. still (ReaderFlicker b) refl refl) ⨾ tt) (λ h. absurd (omega arith))
