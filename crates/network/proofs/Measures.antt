-- What falls while a search goes down, and while it climbs. Assumes nothing.
use mathlib.Core.Path.{◌≡◌, sym, subst}
use mathlib.Core.List.{List}
use mathlib.Core.Logic.{⊎_elim}
use Prim.Native.Nat.{ℕ, zero, suc, ◌+◌, ◌≤◌, ◌<◌}
use native.Mathlib.Omega.{arith}
use lib.ListN.{length, set}
use lib.IntN.{ℤ, pos, ◌+ℤ◌, ◌-ℤ◌}
use lib.Signed.{◌≤ℤ◌, ◌<ℤ◌}
use Rattle.units.specs.Integer.{up, dn, total}
use Rattle.units.specs.Voltage.{voltage_limit, bottom}
use Rattle.units.proofs.Integers.{signs, add_law, sub_law, neg_law, pos_law, one_sided, parts, decide_n}
use Rattle.network.specs.Network.{Network, reading}
use Rattle.network.specs.Sample.{Under}
use Rattle.network.specs.Search.{lowered, height, depth}
use Rattle.network.proofs.Lowering.{lowered_here, lowered_under, store_lowers}

total_le : (f g : ℕ → ℕ) (n : ℕ) → ((j : ℕ) → j < n → g j ≤ f j) → total g n ≤ total f n
unfolding total
total_le f g zero h = omega arith
total_le f g (suc n) h = omega (arith, total_le f g n (λ j l. h j (omega arith)), h n (omega arith))

total_less : (f g : ℕ → ℕ) (n i : ℕ) → i < n → g i < f i → ((j : ℕ) → j < n → g j ≤ f j) → total g n < total f n
unfolding total
total_less f g zero i l less h = absurd (omega arith)
total_less f g (suc n) i l less h = ⊎_elim
    (λ (m : suc i ≤ n). omega (arith, total_less f g n i m less (λ j l. h j (omega arith)), h n (omega arith)))
    (λ (m : n < suc i). let e : n ≡ i = omega arith in rw e (omega (arith, total_le f g i (λ j l. h j (omega arith))))) (decide_n (suc i) n)

up_less : (a b : ℤ) → up a + dn b < up b + dn a → 0 < up b → up a < up b
up_less a b h k = ⊎_elim (λ (z : dn a ≡ 0). omega arith) (λ (z : up a ≡ 0). omega arith) (one_sided a)

-- ---- going down: how high the nodes stand above the bottom

-- u is nowhere higher than v, and at node i, which was above the bottom, lower
pub height_falls : (N : Network) (u v : ℕ → ℤ) (i : ℕ) → i ≤ N.nodes → Under N u v → u i <ℤ v i → bottom <ℤ v i → height N u < height N v
unfolding height
height_falls N u v i there below less over =
    let L = pos voltage_limit in
    total_less (λ (j : ℕ). up (v j +ℤ L)) (λ (j : ℕ). up (u j +ℤ L)) (suc N.nodes) i (omega arith)
    (up_less (u i +ℤ L) (v i +ℤ L) (omega (signs, add_law (u i) L, add_law (v i) L)) (omega (signs, add_law (v i) L, neg_law L, pos_law voltage_limit)))
    (λ j l. (parts (u j +ℤ L) (v j +ℤ L) (omega (signs, below j (omega arith), add_law (u j) L, add_law (v j) L))).0)

-- u is nowhere higher than v
pub height_under : (N : Network) (u v : ℕ → ℤ) → Under N u v → height N u ≤ height N v
unfolding height
height_under N u v below =
    let L = pos voltage_limit in
    total_le (λ (j : ℕ). up (v j +ℤ L)) (λ (j : ℕ). up (u j +ℤ L)) (suc N.nodes)
    (λ j l. (parts (u j +ℤ L) (v j +ℤ L) (omega (signs, below j (omega arith), add_law (u j) L, add_law (v j) L))).0)

pub height_falls_list : (N : Network) (l : List ℤ) (i t : ℕ) → i < length l → i ≤ N.nodes → 0 < t → bottom <ℤ reading l i → height N (reading (set l i (reading l i -ℤ pos t))) < height N (reading l)
height_falls_list N l i t short there some over =
    let u = lowered (reading l) i t in
    subst (λ (u : ℕ → ℤ). height N u < height N (reading l)) (sym (store_lowers l i t short))
    (height_falls N u (reading l) i there (λ j h. lowered_under (reading l) i t j) (omega (signs, lowered_here (reading l) i t, sub_law (reading l i) (pos t), pos_law t)) over)

-- ---- climbing: how far the nodes stand below the top

-- u is nowhere lower than v, and at node i, where it is within the range, higher
pub depth_falls : (N : Network) (u v : ℕ → ℤ) (i : ℕ) → i ≤ N.nodes → Under N v u → v i <ℤ u i → u i ≤ℤ pos voltage_limit → depth N u < depth N v
unfolding depth
depth_falls N u v i there over more inside =
    let L = pos voltage_limit in
    total_less (λ (j : ℕ). up (L -ℤ v j)) (λ (j : ℕ). up (L -ℤ u j)) (suc N.nodes) i (omega arith)
    (up_less (L -ℤ u i) (L -ℤ v i) (omega (signs, sub_law L (u i), sub_law L (v i))) (omega (signs, sub_law L (v i))))
    (λ j l. (parts (L -ℤ u j) (L -ℤ v j) (omega (signs, over j (omega arith), sub_law L (u j), sub_law L (v j)))).0)

-- u is nowhere lower than v
pub depth_over : (N : Network) (u v : ℕ → ℤ) → Under N v u → depth N u ≤ depth N v
unfolding depth
depth_over N u v over =
    let L = pos voltage_limit in
    total_le (λ (j : ℕ). up (L -ℤ v j)) (λ (j : ℕ). up (L -ℤ u j)) (suc N.nodes)
    (λ j l. (parts (L -ℤ u j) (L -ℤ v j) (omega (signs, over j (omega arith), sub_law L (u j), sub_law L (v j)))).0)
