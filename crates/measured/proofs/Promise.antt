-- What document 02 promises of a measured list, of the answer that the function gives. Assumes nothing.
use mathlib.Core.Path.{◌≡◌, refl, sym}
use mathlib.Core.Bool.{Bool, true, false, cond}
use mathlib.Core.List.{List}
use Prim.Native.Nat.{◌≤◌, ◌<◌}
use native.Mathlib.Omega.{arith}
use lib.IntN.{ℤ}
use lib.ListN.{length}
use Rattle.network.specs.Network.{breakpoint_count_limit, CurveInLimits}
use Rattle.image.specs.Parts.{slopes_of, breakpoints_of, curve_size_fits, curve_fits}
use Rattle.image.specs.declared.parts.Curve.{Curve}
use Rattle.image.proofs.Says.{curve_says}
use Rattle.measured.specs.Measured.{most_pairs, pairs_fit, slopes_fit, curve_of, drawn, measured}
use Rattle.measured.specs.Through.{Through}
use Rattle.measured.specs.declared.drawing.Refusal.TheVariants.{Pairs}
use Rattle.std.specs.Prelude.{Ok, Err}
use Rattle.measured.proofs.PairLaws.{pairs_say}
use Rattle.measured.proofs.Limits.{size_fits, curve_fits_lem}
use Rattle.measured.proofs.Through.{many, through, through_once}

-- a curve is given exactly where both rules hold
record Given (volts amps : List ℤ) (c : Curve) : Type 0 where
  pub pairs : pairs_fit volts amps ≡ true
  pub slopes : slopes_fit volts amps ≡ true
  pub curve : c ≡ curve_of volts amps

given : (volts amps : List ℤ) (c : Curve) → measured volts amps ≡ Ok c → Given volts amps c
unfolding measured
given volts amps c e = go (pairs_fit volts amps) refl (slopes_fit volts amps) refl
  where
    go : (p : Bool) → pairs_fit volts amps ≡ p → (s : Bool) → slopes_fit volts amps ≡ s → Given volts amps c
    go true p true s =
        let same : Ok c ≡ Ok (curve_of volts amps) = sym (rw (p, s) at e) in
        record { pairs = p; slopes = s; curve = cc }
    go true p false s = let apart = rw (p, s) at e in absurd (cc)
    go false p s q = let apart = rw p at e in absurd (cc)

module _ (volts amps : List ℤ) (c : Curve) (drawn : measured volts amps ≡ Ok c) where
  -- image's rules 3 and 4 let it pass, so it is a curve of the network
  pub drawn_fits : (curve_size_fits c.count ≡ true) × (curve_fits c ≡ true)
  drawn_fits =
      let g = given volts amps c drawn in
      let say = pairs_say volts amps g.pairs in
      rw g.curve (size_fits volts amps say, curve_fits_lem volts amps say g.slopes)

  pub drawn_in_limits : CurveInLimits (slopes_of c) (breakpoints_of c)
  drawn_in_limits = curve_says c drawn_fits.0 drawn_fits.1

  -- it lies through the pairs as document 02 says
  pub drawn_through : Through volts amps c
  drawn_through =
      let g = given volts amps c drawn in
      rw g.curve (through volts amps (pairs_say volts amps g.pairs))

  -- and every curve that does has its slopes and its breakpoints
  pub drawn_once : (d : Curve) → Through volts amps d → (slopes_of d ≡ slopes_of c) × (breakpoints_of d ≡ breakpoints_of c)
  drawn_once d t =
      let g = given volts amps c drawn in
      rw g.curve (through_once volts amps (pairs_say volts amps g.pairs) d t)

  -- it has no more breakpoints than a curve may have
  pub few : c.count ≤ breakpoint_count_limit
  few =
      let g = given volts amps c drawn in
      let say = pairs_say volts amps g.pairs in
      rw g.curve (omega (arith, say.few, many volts amps say))

-- more pairs than a curve is made from break a rule
pub too_many : (volts amps : List ℤ) → most_pairs < length volts → measured volts amps ≡ Err Pairs
unfolding measured
too_many volts amps h = go (pairs_fit volts amps) refl
  where
    go : (t : Bool) → pairs_fit volts amps ≡ t → cond t (drawn volts amps) (Err Pairs) ≡ Err Pairs
    go false e = refl
    go true e = absurd (omega (arith, (pairs_say volts amps e).few))
