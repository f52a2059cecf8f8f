-- The curves of two measured lists, computed from the definition. Assumes nothing.
use mathlib.Core.Path.{◌≡◌, refl}
use mathlib.Core.List.{List, [], ◌∷◌}
use Prim.Native.Nat.{◌+◌, ◌*◌, ◌^◌}
use lib.IntN.{ℤ, pos}
use Rattle.units.specs.Table.{tabulate, padded, every}
use Rattle.measured.specs.Measured.{follows, pairs_fit, reached, slope_at, curve_of, slopes_fit, measured}
use Rattle.std.specs.Prelude.{Ok, Err}
use Rattle.measured.specs.declared.drawing.Refusal.TheVariants.{Slope}

-- document 001's diode, up to 0.75 volts: the curve that the bench plays it with
pub diode_volts : List ℤ
diode_volts = pos 0 ∷ pos 200000 ∷ pos 300000 ∷ pos 350000 ∷ pos 400000 ∷ pos 430000 ∷ pos 460000 ∷ pos 490000 ∷ pos 520000 ∷ pos 550000 ∷ pos 580000 ∷ pos 610000 ∷ pos 640000 ∷ pos 670000 ∷ pos 700000 ∷ pos 750000 ∷ []

pub diode_amps : List ℤ
diode_amps = pos 0 ∷ pos 212064445 ∷ pos 1977625425 ∷ pos 6012630683 ∷ pos 18269894376 ∷ pos 35587283493 ∷ pos 69316951778 ∷ pos 135013374890 ∷ pos 262972534560 ∷ pos 512202945714 ∷ pos 997637501586 ∷ pos 1943134910762 ∷ pos 3784712400342 ∷ pos 7371615566038 ∷ pos 14357948963830 ∷ pos 43615602962486 ∷ []

pub diode_example : measured diode_volts diode_amps ≡ Ok (record { count = 15; slopes = 0 ∷ 1060 ∷ 17656 ∷ 80700 ∷ 245145 ∷ 577247 ∷ 1124323 ∷ 2189880 ∷ 4265306 ∷ 8307680 ∷ 16181152 ∷ 31516580 ∷ 61385917 ∷ 119563438 ∷ 232877780 ∷ 585153080 ∷ 0 ∷ []; breakpoints = pos 0 ∷ pos 200000 ∷ pos 300000 ∷ pos 350000 ∷ pos 400000 ∷ pos 430000 ∷ pos 460000 ∷ pos 490000 ∷ pos 520000 ∷ pos 550000 ∷ pos 580000 ∷ pos 610000 ∷ pos 640000 ∷ pos 670000 ∷ pos 700000 ∷ pos 0 ∷ [] })
unfolding tabulate padded every follows pairs_fit reached slope_at curve_of slopes_fit measured diode_volts diode_amps
diode_example = refl

-- what the first stretch leaves over is made up in the second, and makes its slope too large
pub made_up_example : measured (pos 0 ∷ pos 2 ∷ pos 3 ∷ []) (pos 0 ∷ pos (2 ^ 31 + 1) ∷ pos (3 * 2 ^ 30 + 1) ∷ []) ≡ Err Slope
unfolding tabulate padded every follows pairs_fit reached slope_at curve_of slopes_fit measured
made_up_example = refl
