-- The images of document 01's proved cases are opened, and mean the networks of network's table of cases; and conductances at their halves.
-- Assumes nothing.
use mathlib.Core.Path.{◌≡◌, refl, fun_ext}
use mathlib.Core.Bool.{true}
use mathlib.Core.List.{List}
use Prim.Native.Nat.{ℕ, zero, suc}
use native.Mathlib.Omega.{arith}
use borrow.Author.Tests.{le-ltb}
use Rattle.units.specs.Bytes.{little_endian}
use Rattle.units.specs.Table.{tabulate, padded, every}
use Rattle.image.specs.Parts.{version1, version2, element_of, curve_of, slopes_of, breakpoints_of, header_fits, curve_sizes_fit, curve_fits, curves_fit, element_fits, elements_fit}
use Rattle.image.specs.Conductance.{resistor_conductance, capacitor_conductance, inductor_conductance, conductance_by, conductances_fit}
use Rattle.image.specs.Setting.{plain}
use Rattle.image.specs.Curve.{curve_in, start_from}
use Rattle.image.specs.Format.{trailer_at, header_at, element_at, parts_of, trailer_fits, sizes_fit, curve_bytes_fit, opened, opening_of}
use Rattle.image.specs.Meaning.{leak_of, branch_at, network_at}
use Rattle.network.specs.Cases as cases
use Rattle.image.specs.Examples.{example_in, low_pass, clipper, lone}

-- an image is opened, its conductances are in their limits, and it means a circuit of the table
pub record Means (image : List ℕ) (c : cases.Circuit) : Type 0 where
  pub opening : opening_of image ≡ opened (parts_of image)
  pub conductances : conductances_fit (parts_of image) plain ≡ true
  pub network : network_at (parts_of image) plain ≡ cases.network_of c

example_branches : (version j : ℕ) → (network_at (parts_of (example_in version)) plain).branch j ≡ (cases.network_of cases.divider).branch j
unfolding little_endian tabulate padded conductance_by header_at element_at start_from curve_in parts_of element_of curve_of slopes_of breakpoints_of branch_at example_in
example_branches version zero = refl
example_branches version (suc zero) = refl
example_branches version (suc (suc j)) = rw (le-ltb (suc (suc j)) 2 (omega arith))

-- in both versions
pub example_means : Means (example_in version1) cases.divider × Means (example_in version2) cases.stiff_divider
unfolding little_endian every tabulate padded conductance_by conductances_fit trailer_at header_at element_at start_from curve_in parts_of element_of curve_of header_fits trailer_fits curve_sizes_fit sizes_fit curve_fits curves_fit curve_bytes_fit element_fits elements_fit opening_of leak_of example_in
example_means = (
  record { opening = refl; conductances = refl; network = rw (fun_ext (example_branches version1)) },
  record { opening = refl; conductances = refl; network = rw (fun_ext (example_branches version2)) },
)

low_pass_branches : (j : ℕ) → (network_at (parts_of low_pass) plain).branch j ≡ (cases.network_of cases.low_pass).branch j
unfolding little_endian tabulate padded conductance_by header_at element_at start_from curve_in parts_of element_of curve_of slopes_of breakpoints_of branch_at low_pass
low_pass_branches zero = refl
low_pass_branches (suc zero) = refl
low_pass_branches (suc (suc j)) = rw (le-ltb (suc (suc j)) 2 (omega arith))

pub low_pass_means : Means low_pass cases.low_pass
unfolding little_endian every tabulate padded conductance_by conductances_fit trailer_at header_at element_at start_from curve_in parts_of element_of curve_of header_fits trailer_fits curve_sizes_fit sizes_fit curve_fits curves_fit curve_bytes_fit element_fits elements_fit opening_of leak_of low_pass
low_pass_means = record { opening = refl; conductances = refl; network = rw (fun_ext low_pass_branches) }

clipper_branches : (j : ℕ) → (network_at (parts_of clipper) plain).branch j ≡ (cases.network_of cases.clipper).branch j
unfolding little_endian tabulate padded conductance_by header_at element_at start_from curve_in parts_of element_of curve_of slopes_of breakpoints_of branch_at clipper
clipper_branches zero = refl
clipper_branches (suc zero) = refl
clipper_branches (suc (suc j)) = rw (le-ltb (suc (suc j)) 2 (omega arith))

pub clipper_means : Means clipper cases.clipper
unfolding little_endian every tabulate padded conductance_by conductances_fit trailer_at header_at element_at start_from curve_in parts_of element_of curve_of header_fits trailer_fits curve_sizes_fit sizes_fit curve_fits curves_fit curve_bytes_fit element_fits elements_fit opening_of leak_of clipper
clipper_means = record { opening = refl; conductances = refl; network = rw (fun_ext clipper_branches) }

lone_branches : (j : ℕ) → (network_at (parts_of lone) plain).branch j ≡ (cases.network_of cases.lone).branch j
unfolding little_endian tabulate padded conductance_by header_at element_at start_from curve_in parts_of element_of curve_of slopes_of breakpoints_of branch_at lone
lone_branches zero = refl
lone_branches (suc j) = rw (le-ltb (suc j) 1 (omega arith))

pub lone_means : Means lone cases.lone
unfolding little_endian every tabulate padded conductance_by conductances_fit trailer_at header_at element_at start_from curve_in parts_of element_of curve_of header_fits trailer_fits curve_sizes_fit sizes_fit curve_fits curves_fit curve_bytes_fit element_fits elements_fit opening_of leak_of lone
lone_means = record { opening = refl; conductances = refl; network = rw (fun_ext lone_branches) }

-- request 2's resistor, and a half of each kind: 976,562.5, 220.5 and 62.5
pub nearest_examples : (resistor_conductance 1500 ≡ 666667) × (resistor_conductance 1024 ≡ 976563) × (capacitor_conductance 5 22050 ≡ 221) × (inductor_conductance 1000000000 8000 ≡ 63)
nearest_examples = (refl, refl, refl, refl)
