-- The bench table is proved: the runs by computing the definitions over the bytes, the verdicts by the theory of histories. Assumes nothing.
use mathlib.Core.Path.{refl}
use mathlib.Core.List.{[]}
use Rattle.history.proofs.BenchLogs as logs
use Rattle.fields.specs.Tags.{body_length_of, fits, knows}
use Rattle.fields.specs.Field.{found}
use Rattle.fields.specs.Walk.{head_of_file}
use Rattle.fields.specs.Events.{recorded_event}
use Rattle.register.specs.Move.{answer_to}
use Rattle.replay.specs.Run.{move_of, events_of}
use Rattle.bench_lines.specs.Bytes.{schedule1, schedule2, schedule3, schedule4, schedule5, schedule6, log2, log3, log4, log5, log6, log7, log8, log9, log10}
use Rattle.bench_lines.proofs.Answers.{logged, judged}
use Rattle.bench_lines.specs.BenchTable.{P1, P2, P3, P4, P5, P6, BenchTable}

p1 : P1
unfolding answer_to found head_of_file knows fits body_length_of move_of events_of recorded_event
p1 = record { seven_bytes = refl; same = logged schedule1 schedule1 (λ room. refl); atomic_1 = judged schedule1 [] (logs.answer 1 0 0 0 0) refl logs.p1 }

p2 : P2
unfolding answer_to found head_of_file knows fits body_length_of move_of events_of
p2 = record { end = _; ran = refl; read_ended = refl; returns = refl; number = refl; moves = refl; log = logged schedule2 log2 (λ room. refl); seventeen = refl }

p3 : P3
unfolding answer_to found head_of_file knows fits body_length_of move_of events_of
p3 = record {
  written = _;
  write = refl;
  passes = refl;
  write_ended = refl;
  start = refl;
  number = refl;
  end = _;
  then_read = refl;
  read_ended = refl;
  returns = refl;
  read_start = refl;
  read_number = refl;
  moves = refl;
  log = logged schedule3 log3 (λ room. refl);
}

p4 : P4
unfolding answer_to found head_of_file knows fits body_length_of move_of events_of
p4 = record {
  after_P2 = _;
  ran_P2 = refl;
  written = _;
  write = refl;
  passes = refl;
  write_ended = refl;
  aw = refl;
  ww = refl;
  end = _;
  then_read = refl;
  read_ended = refl;
  returns = refl;
  moves = refl;
  log = logged schedule4 log4 (λ room. refl);
}

p5 : P5
unfolding answer_to found head_of_file knows fits body_length_of move_of events_of
p5 = record {
  begun = _;
  ran = refl;
  end = _;
  read = refl;
  passes = refl;
  read_ended = refl;
  returns = refl;
  write_open_is = refl;
  moves = refl;
  log = logged schedule5 log5 (λ room. refl);
}

p6 : P6
unfolding answer_to found head_of_file knows fits body_length_of move_of events_of recorded_event
p6 = record {
  once = _;
  read = refl;
  read_ended = refl;
  returns = refl;
  number = refl;
  being_assigned = refl;
  row_0 = refl;
  again = _;
  read_again = refl;
  flickered = refl;
  read_ended_again = refl;
  returns_again = refl;
  moves = refl;
  log = logged schedule6 log6 (λ room. refl);
  atomic_1 = judged log6 logs.log6 (logs.answer 1 0 0 2 0) refl logs.p6;
}

pub bench_table : BenchTable
unfolding found head_of_file knows fits body_length_of recorded_event
bench_table = record {
  p1 = p1;
  p2 = p2;
  p3 = p3;
  p4 = p4;
  p5 = p5;
  p6 = p6;
  p7_bytes = refl;
  p7 = judged log7 logs.log7 (logs.answer 0 2 0 2 1) refl logs.p7;
  p8 = judged log8 logs.log8 (logs.answer 1 0 1 2 0) refl logs.p8;
  p9 = judged log9 logs.log9 (logs.answer 0 1 1 1 0) refl logs.p9;
  p10 = judged log10 logs.log10 (logs.answer 0 1 0 1 0) refl logs.p10;
}
