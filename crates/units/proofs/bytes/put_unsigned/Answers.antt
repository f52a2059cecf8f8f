use Rattle.std.proofs.Common.{◌^◌, sym, refl, div-one, pow-add}
use native.Mathlib.Nat.{div-div-eq-div-mul}
use Rattle.units.specs.Bytes.{written}
use Rattle.units.proofs.LittleEndian.{written_both}
use Rattle.units.proofs.bytes.put_unsigned.Goals as goal

pub loop-i-init : goal.loop-i-init
unfolding written
loop-i-init g c = (refl, sym (div-one c.args.v))

pub loop-i-preserved : goal.loop-i-preserved
unfolding written
loop-i-preserved g c =
    let l = c.loop-i in (
      rw (l.invariant.0, l.invariant.1) (sym (written_both l.i 1 c.args.s.now c.args.at c.args.v)),
      rw (l.invariant.1, pow-add 256 l.i 1) (div-div-eq-div-mul c.args.v (256 ^ l.i) 256),
    )
