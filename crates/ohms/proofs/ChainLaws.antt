-- Values with a sign between them have one reading if the values have. Assumes nothing.
use mathlib.Core.Path.{◌≡◌, sym, ◌∙◌, ap}
use mathlib.Core.Bool.{false≢true}
use mathlib.Core.List.{List}
use Prim.Native.Nat.{ℕ, ◌≤◌, ◌<◌}
use native.Mathlib.Omega.{arith}
use lib.ListN.{length}
use Rattle.ohms.specs.Worth.{Worth}
use Rattle.ohms.specs.Grammar.{stands, More, last, more, Chain}
use Rattle.ohms.specs.declared.stages.Sign.{Sign}

-- what stands from a place on has one end and comes to one thing; it is not empty, and ends in the text
pub record OneReading (text : List ℕ) (Item : ℕ → ℕ → Worth → Type 0) : Type 0 where
  pub once : {i j k : ℕ} {v w : Worth} → Item i j v → Item i k w → (j ≡ k) × (v ≡ w)
  pub longer : {i j : ℕ} {w : Worth} → Item i j w → i < j
  pub within : {i j : ℕ} {w : Worth} → Item i j w → j ≤ length text

module _ (sign : Sign) (Item : ℕ → ℕ → Worth → Type 0) (text : List ℕ) (one : OneReading text Item) where
  more_once : {i i' j j' : ℕ} {v v' w w' : Worth} → i ≡ i' → v ≡ v' → More sign Item text i v j w → More sign Item text i' v' j' w' → (j ≡ j') × (w ≡ w')
  more_once e f (last a) (last b) = (e, f)
  more_once e f (last a) (more b item rest) = absurd (false≢true (sym a ∙ ap (stands sign text) e ∙ b))
  more_once e f (more a item rest) (last b) = absurd (false≢true (sym b ∙ ap (stands sign text) (sym e) ∙ a))
  more_once e f (more a item rest) (more b item' rest') =
      let same = one.once (rw e at item) item' in
      let then = more_once same.0 (cc) rest rest' in
      (then.0, cc)

  more_longer : {i j : ℕ} {v w : Worth} → More sign Item text i v j w → i ≤ j
  more_longer (last a) = omega arith
  more_longer (more {i = i} a item rest) = omega (arith, one.longer item, more_longer rest)

  more_within : {i j : ℕ} {v w : Worth} → i ≤ length text → More sign Item text i v j w → j ≤ length text
  more_within h (last a) = h
  more_within h (more a item rest) = more_within (one.within item) rest

  pub chain_reads : OneReading text (Chain sign Item text)
  chain_reads = record {
    once = λ a b. let same = one.once a.first b.first in more_once same.0 same.1 a.others b.others;
    longer = λ a. omega (arith, one.longer a.first, more_longer a.others);
    within = λ a. more_within (one.within a.first) a.others;
  }
