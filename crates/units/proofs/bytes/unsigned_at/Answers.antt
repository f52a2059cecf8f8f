use Rattle.std.proofs.Common.{◌≡◌, ℕ, ◌-◌, refl, arith}
use Rattle.units.specs.Bytes.{little_endian}
use Rattle.units.proofs.LittleEndian.{spells_more, spells_fits}
use Rattle.units.proofs.bytes.unsigned_at.Goals as goal

pub loop-i-init : goal.loop-i-init
unfolding little_endian
loop-i-init g c = record { value = rw (none g.row.N) refl; small = rw (none g.row.N) (omega arith) }
  where
    none : (n : ℕ) → n - n ≡ 0
    none n = omega arith

pub overflow_mul-n : goal.overflow_mul-n
overflow_mul-n g c =
    let h = spells_more g.row.N c.loop-i.i _ _ _ c.loop-i-test.true c.loop-i.auto.i (c.type_inv.s _).fits c.loop-i.invariant in
    record { fits = omega (arith, spells_fits (omega arith) h) }

pub overflow_add-n-in-loop-i : goal.overflow_add-n-in-loop-i
overflow_add-n-in-loop-i g c =
    let h = spells_more g.row.N c.loop-i.i _ _ _ c.loop-i-test.true c.loop-i.auto.i (c.type_inv.s _).fits c.loop-i.invariant in
    record { fits = spells_fits (omega arith) h }

pub loop-i-preserved : goal.loop-i-preserved
loop-i-preserved g c = spells_more g.row.N c.loop-i.i _ _ _ c.loop-i-test.true c.loop-i.auto.i (c.type_inv.s _).fits c.loop-i.invariant
