-- What is left of `capi::fits`: the test of the words, in the words of the definition.
use Rattle.register.proofs.Tested.{all_tested}
use Rattle.capi.proofs.Fitting.{narrow, fitting_all}
use Rattle.capi.proofs.fits.Goals as goal

pub returns : goal.returns
unfolding narrow
returns c = rw (all_tested 255 (narrow c.args.w) _ c.are_bytes.ensures) (fitting_all c.args.w)
