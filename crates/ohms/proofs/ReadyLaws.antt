-- A chain of values that is read from the left: what was found so far, and what may follow on it. Assumes nothing.
use mathlib.Core.Path.{◌≡◌, sym, ◌∙◌}
use mathlib.Core.Bool.{true, false, false≢true}
use mathlib.Core.List.{List}
use Prim.Native.Nat.{ℕ, ◌≤◌, ◌<◌}
use native.Mathlib.Omega.{arith}
use lib.ListN.{length}
use Rattle.ohms.specs.Worth.{Worth, joined}
use Rattle.ohms.specs.Grammar.{stands, after, More, last, more, Chain}
use Rattle.std.specs.Prelude.{Option, Some, None}
use Rattle.ohms.specs.Found.{Right}
use Rattle.ohms.specs.declared.reader.Found.{Found}
use Rattle.ohms.specs.declared.stages.Sign.{Sign}
use Rattle.ohms.proofs.ChainLaws.{OneReading}

-- what was found so far, which ends at m: the chain is that with whatever follows on it, and nothing else
pub record Ready (sign : Sign) (Item : ℕ → ℕ → Worth → Type 0) (text : List ℕ) (i m : ℕ) (v : Worth) : Type 0 where
  pub longer : i < m
  pub within : m ≤ length text
  pub onward : {j : ℕ} {w : Worth} → More sign Item text m v j w → Chain sign Item text i j w
  pub back : {j : ℕ} {w : Worth} → Chain sign Item text i j w → More sign Item text m v j w

-- .. or there is no such chain
abbrev pub SoFar : Sign → (ℕ → ℕ → Worth → Type 0) → List ℕ → ℕ → Option Found → Type 0
SoFar sign Item text i None = (j : ℕ) (w : Worth) → Chain sign Item text i j w → ⊥
SoFar sign Item text i (Some found) = Ready sign Item text i found.end found.worth

-- a value and the one after the sign, as one
abbrev pub with_next : Sign → Worth → Option Found → Option Found
with_next sign v None = None
with_next sign v (Some found) = Some (record { end = found.end; worth = joined sign v found.worth })

module _ (sign : Sign) (Item : ℕ → ℕ → Worth → Type 0) (text : List ℕ) (one : OneReading text Item) where
  -- the first value
  pub ready_first : {i m : ℕ} {v : Worth} → Item i m v → Ready sign Item text i m v
  ready_first {m = m} {v = v} h = record {
    longer = one.longer h;
    within = one.within h;
    onward = λ rest. record { end = m; worth = v; first = h; others = rest };
    back = λ c. let same = one.once c.first h in rw (same.0, same.1) at c.others;
  }

  -- there is none
  pub no_first : {i : ℕ} → ((j : ℕ) (w : Worth) → Item i j w → ⊥) → (j : ℕ) (w : Worth) → Chain sign Item text i j w → ⊥
  no_first none j w c = none c.end c.worth c.first

  module _ {i m : ℕ} {v : Worth} (h : Ready sign Item text i m v) where
    -- the sign stands there, and after it no value
    pub no_next : stands sign text m ≡ true → ((j : ℕ) (w : Worth) → Item (after sign text m) j w → ⊥) → (j : ℕ) (w : Worth) → Chain sign Item text i j w → ⊥
    no_next g none j w c = go (h.back c)
      where
        go : {j : ℕ} {w : Worth} → More sign Item text m v j w → ⊥
        go (last f) = false≢true (sym f ∙ g)
        go (more {k = k} {u = u} t item rest) = none k u item

    -- or one more
    pub ready_more : {k : ℕ} {u : Worth} → stands sign text m ≡ true → Item (after sign text m) k u → Ready sign Item text i k (joined sign v u)
    ready_more {k} {u} g r = record {
      longer = omega (arith, h.longer, one.longer r);
      within = one.within r;
      onward = λ rest. h.onward (more g r rest);
      back = λ c. on (h.back c);
    }
      where
        on : {j : ℕ} {w : Worth} → More sign Item text m v j w → More sign Item text k (joined sign v u) j w
        on (last f) = absurd (false≢true (sym f ∙ g))
        on (more t item rest) = let same = one.once item r in rw (same.0, same.1) at rest

    -- .. as one: what is found then
    pub so_far_more : stands sign text m ≡ true → (next : Option Found) → Right (Item (after sign text m)) next → SoFar sign Item text i (with_next sign v next)
    so_far_more g None r = no_next g r
    so_far_more g (Some found) r = ready_more g r

    -- no sign follows
    pub ready_done : stands sign text m ≡ false → Chain sign Item text i m v
    ready_done g = h.onward (last g)
