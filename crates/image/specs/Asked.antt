-- What the reader's functions ask of one another; no outcome rests on it. Assumes nothing.
use Rattle.std.specs.Prelude.{◌≡◌, true, List, ℕ, ◌+◌, ◌*◌, ◌≤◌, ◌<◌, length}
use Rattle.network.specs.Network.{branch_limit, breakpoint_count_limit}
use Rattle.image.specs.Parts.{curve_limit, curve_sizes_fit}
use Rattle.image.specs.Curve.{breakpoints_at, curve_length}
use Rattle.image.specs.Format.{element_size, trailer_size, header_of, curve_start, parts_of}
use Rattle.image.specs.declared.parts.Parts.{Parts}

-- a whole curve stands at a place
pub record CurveThere (image : List ℕ) (at : ℕ) : Type 0 where
  pub some : 1 ≤ breakpoints_at image at
  pub few : breakpoints_at image at ≤ breakpoint_count_limit
  pub whole : at + curve_length (breakpoints_at image at) ≤ length image

-- the header is that of an image that is long enough, and its counts are in their limits
pub record Headed (image : List ℕ) (header : Parts) : Type 0 where
  pub is : header ≡ header_of image
  pub long : trailer_size ≤ length image
  pub few_elements : header.element_count ≤ branch_limit
  pub few_curves : header.curve_count ≤ curve_limit

-- the header is the image's, and its elements and curves are there whole
pub record Furnished (image : List ℕ) (header : Parts) : Type 0 where
  pub is : header ≡ header_of image
  pub few : header.element_count ≤ branch_limit
  pub room : element_size * header.element_count ≤ length image
  pub few_curves : header.curve_count ≤ curve_limit
  pub curves : (k : ℕ) → k < header.curve_count → CurveThere image (curve_start image k)

-- the parts are the image's, and its curves are there whole
pub record Whole (image : List ℕ) (parts : Parts) : Type 0 where
  pub is : parts ≡ parts_of image
  pub few_curves : parts.curve_count ≤ curve_limit
  pub sizes : curve_sizes_fit parts ≡ true
  pub curves : (k : ℕ) → k < (header_of image).curve_count → CurveThere image (curve_start image k)
