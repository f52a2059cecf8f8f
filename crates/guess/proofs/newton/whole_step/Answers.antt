use Rattle.std.proofs.Common.{T, sym, subst}
use lib.Ieee.{of_bits, neg}
use Rattle.guess.proofs.newton.whole_step.Goals as goal

pub truncating_f64_to_u64-raised-requires : goal.truncating_f64_to_u64-raised-requires
unfolding of_bits neg
truncating_f64_to_u64-raised-requires c = record { lower_bound = subst T (sym c.if-above.true) tt; upper_bound = subst T (sym c.if-above-2.true) tt }
