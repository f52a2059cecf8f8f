use mathlib.Core.Path.{sym, ◌∙◌, ◌≡◌}
use Prim.Native.Nat.{suc, ◌<◌, ◌+◌}
use native.Mathlib.Numerals.{add-one}
use native.Mathlib.Omega.{arith}
use lib.ListN.{length}
use borrow.Author.Tests.{le-leb}
use Rattle.units.proofs.Tables.{padded_more}
use Rattle.units.proofs.Every.{every_more}
use Rattle.network.specs.Network.{conductance_limit}
use Rattle.measured.specs.Measured.{slope_at, slope_small, curve_of}
use Rattle.measured.proofs.PairLaws.{pairs_say, wider, no_less, volt_small, reached_more, reached_most}
use Rattle.measured.proofs.DrawingLaws.{first_slope, first_fits, reached_none, all_drawn, one_steep}
use Rattle.measured.proofs.drawing.draw.Goals as goal

pub overflow_sub-last : goal.overflow_sub-last
overflow_sub-last c =
    let say = pairs_say c.args.voltages.now c.args.currents.now c.requires in
    omega (arith, say.some)

pub loop-j-init : goal.loop-j-init
loop-j-init c =
    let volts = c.args.voltages.now in
    let amps = c.args.currents.now in
    (first_slope volts amps, reached_none volts amps, first_fits volts amps)

pub width_after-width-requires : goal.width_after-width-requires
width_after-width-requires c =
    let say = pairs_say c.args.voltages.now c.args.currents.now c.requires in
    let there : suc c.loop-j.j < length c.args.voltages.now = omega (arith, say.some) in
    (there, omega (arith, wider c.args.voltages.now c.args.currents.now say c.loop-j.j there))

pub size_at-requires : goal.size_at-requires
size_at-requires c =
    let say = pairs_say c.args.voltages.now c.args.currents.now c.requires in
    omega (arith, say.some, say.same)

pub largest-slope-requires : goal.largest-slope-requires
largest-slope-requires c =
    let say = pairs_say c.args.voltages.now c.args.currents.now c.requires in
    let to = rw (add-one c.loop-j.j) at c.size_at.ensures in
    let volts = c.args.voltages.now in
    let amps = c.args.currents.now in
    let j = c.loop-j.j in
    let there : suc j < length volts = omega (arith, say.some) in (
      rw (to, c.loop-j.invariant.1) (omega (arith, reached_most volts amps say j (omega arith), no_less volts amps say j there)),
      rw c.width_after-width.ensures (omega (arith, wider volts amps say j there)),
    )

pub returns-then-slope-gt-SLOPE : goal.returns-then-slope-gt-SLOPE
unfolding slope_at
returns-then-slope-gt-SLOPE c =
    let say = pairs_say c.args.voltages.now c.args.currents.now c.requires in
    let there : suc c.loop-j.j < length c.args.voltages.now = omega (arith, say.some) in
    let to = rw (add-one c.loop-j.j) at c.size_at.ensures in
    let slope : c.largest-slope.result ≡ slope_at c.args.voltages.now c.args.currents.now (suc c.loop-j.j) = c.largest-slope.ensures ∙ rw (c.loop-j.invariant.1, to, c.width_after-width.ensures) in
    let a = c.args in
    one_steep a.voltages.now a.currents.now (suc c.loop-j.j) there (omega (arith, slope, c.if-slope-gt-SLOPE.true))

pub bounds-slopes-j : goal.bounds-slopes-j
bounds-slopes-j c =
    let say = pairs_say c.args.voltages.now c.args.currents.now c.requires in
    let there : suc c.loop-j.j < length c.args.voltages.now = omega (arith, say.some) in
    omega (arith, there, say.few)

pub loop-j-preserved : goal.loop-j-preserved
unfolding slope_at
loop-j-preserved c =
    let say = pairs_say c.args.voltages.now c.args.currents.now c.requires in
    let there : suc c.loop-j.j < length c.args.voltages.now = omega (arith, say.some) in
    let to = rw (add-one c.loop-j.j) at c.size_at.ensures in
    let slope : c.largest-slope.result ≡ slope_at c.args.voltages.now c.args.currents.now (suc c.loop-j.j) = c.largest-slope.ensures ∙ rw (c.loop-j.invariant.1, to, c.width_after-width.ensures) in
    let l = c.loop-j in
    let a = c.args in
    let volts = a.voltages.now in
    let amps = a.currents.now in
    let found = slope in
    let next : l.j + 1 ≡ suc l.j = omega arith in (
      rw l.invariant.0 (padded_more 0 17 (slope_at volts amps) (l.j + 1) _ (omega (arith, there, say.few)) (rw next found)),
      rw (next, l.invariant.1, found, c.width_after-width.ensures) (sym (reached_more volts amps l.j)),
      every_more (slope_small volts amps) (l.j + 1) l.invariant.2 (rw (next, ← found) (le-leb _ conductance_limit c.if-slope-gt-SLOPE.false)),
    )

pub breakpoints-requires : goal.breakpoints-requires
breakpoints-requires c =
    let say = pairs_say c.args.voltages.now c.args.currents.now c.requires in
    (omega (arith, say.few), omega arith, volt_small c.args.voltages.now c.args.currents.now say)

pub overflow_cast-result : goal.overflow_cast-result
overflow_cast-result c = record {
  fits =
      let say = pairs_say c.args.voltages.now c.args.currents.now c.requires in
      omega (arith, say.few);
}

pub returns : goal.returns
unfolding curve_of
returns c =
    let say = pairs_say c.args.voltages.now c.args.currents.now c.requires in
    let l = c.loop-j in
    let volts = c.args.voltages.now in
    let amps = c.args.currents.now in
    let end : l.j + 1 ≡ length volts = omega (arith, say.some) in
    rw (rw end at l.invariant.0, c.breakpoints.ensures) (all_drawn volts amps (rw end at l.invariant.2))
