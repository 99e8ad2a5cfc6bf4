-- Every move of the device keeps its invariants: the lemmas of Steps.antt put together. Assumes nothing.
use Rattle.invariants.proofs.Device.{WLoc, w20, w21, w22, w23, w24, w25, w26, w27, RLoc, r40, r41, r42, r43, r44, Data, Act, start, writes, writer_flickers, reads, reader_flickers, q_after, r_after, data_after}
use Rattle.terms.specs.Value.{no_value}
use Rattle.invariants.proofs.Inv.{Inv}
use Rattle.invariants.proofs.Steps.{WStep, WFlick, RStep, RFlick, keeps20, keeps21, keeps22, keeps23, keeps24, keeps25, keeps26, keeps27, flicker21, flicker24, flicker26, keeps40, keeps41, keeps42, keeps43, keeps44, flicker41}

writer_step : (q : WLoc) (r : RLoc) (d : Data) → WStep q r d
writer_step w20 r d = keeps20 r d
writer_step w21 r d = keeps21 d.aw d.br r d
writer_step w22 r d = keeps22 d.aw d.br d.rr r d
writer_step w23 r d = keeps23 r d
writer_step w24 r d = keeps24 d.aw d.br r d
writer_step w25 r d = keeps25 d.aw d.br d.rr r d
writer_step w26 r d = keeps26 r d
writer_step w27 r d = keeps27 r d

writer_flicker : (q : WLoc) (r : RLoc) (d : Data) → WFlick q r d
writer_flicker w20 r d b i = i
writer_flicker w21 r d b i = flicker21 d.aw d.br r d b i
writer_flicker w22 r d b i = i
writer_flicker w23 r d b i = i
writer_flicker w24 r d b i = flicker24 d.aw d.br r d b i
writer_flicker w25 r d b i = i
writer_flicker w26 r d b i = flicker26 r d b i
writer_flicker w27 r d b i = i

reader_step : (q : WLoc) (r : RLoc) (d : Data) → RStep q r d
reader_step q r40 d = keeps40 d.aw d.br d.ww q d
reader_step q r41 d = keeps41 q d
reader_step q r42 d = keeps42 d.aw d.br q d
reader_step q r43 d = keeps43 d.aw d.br q d
reader_step q r44 d = keeps44 q d

reader_flicker : (q : WLoc) (r : RLoc) (d : Data) → RFlick q r d
reader_flicker q r40 d b i = i
reader_flicker q r41 d b i = flicker41 q d b i
reader_flicker q r42 d b i = i
reader_flicker q r43 d b i = i
reader_flicker q r44 d b i = i

pub kept : (a : Act) (q : WLoc) (r : RLoc) (d : Data) → Inv q r d → Inv (q_after a q d) (r_after a r d) (data_after a q r d)
kept (start v) q r d i = writer_step q r d v i
kept writes q r d i = writer_step q r d no_value i
kept (writer_flickers b) q r d i = writer_flicker q r d b i
kept reads q r d i = reader_step q r d i
kept (reader_flickers b) q r d i = reader_flicker q r d b i
