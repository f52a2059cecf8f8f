-- Document 01's numbers are few. Assumes nothing.
use Rattle.std.proofs.Common.{◌≡◌, ◌≤◌, refl, arith}
use Rattle.units.specs.Number.{number_of}
use Rattle.units.specs.declared.number.Number.{Number}
use Rattle.units.specs.declared.number.Number.TheVariants.{Done, Length, Trailer, Sizes, Curve, Element, Conductance, State, Lengths, Drive, Rail, Stored}

pub number_small : (k : Number) → number_of k ≤ 11
number_small Done = omega arith
number_small Length = omega arith
number_small Trailer = omega arith
number_small Sizes = omega arith
number_small Curve = omega arith
number_small Element = omega arith
number_small Conductance = omega arith
number_small State = omega arith
number_small Lengths = omega arith
number_small Drive = omega arith
number_small Rail = omega arith
number_small Stored = omega arith

-- number 0 is Done alone
pub done_only : (k : Number) → number_of k ≡ 0 → k ≡ Done
done_only Done e = refl
done_only Length e = absurd (omega arith)
done_only Trailer e = absurd (omega arith)
done_only Sizes e = absurd (omega arith)
done_only Curve e = absurd (omega arith)
done_only Element e = absurd (omega arith)
done_only Conductance e = absurd (omega arith)
done_only State e = absurd (omega arith)
done_only Lengths e = absurd (omega arith)
done_only Drive e = absurd (omega arith)
done_only Rail e = absurd (omega arith)
done_only Stored e = absurd (omega arith)
