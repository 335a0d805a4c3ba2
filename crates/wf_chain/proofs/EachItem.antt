-- Something for each item of a list, made item by item.
use Rattle.std.proofs.Common.{◌≡◌, ℕ, ◌+◌, ◌≤◌, List, [], ◌∷◌, ◌++◌, length, get_or, Option, None, sym, subst, arith, length-append}
use Rattle.wf_model.proofs.Positions.{each_more}
use Rattle.wf_flat.specs.declared.graph.Port.{Port as PortHeld}
use Rattle.wf_flat.specs.declared.item.Item.{Item as ItemHeld}
use Rattle.wf_chain.specs.ItemGraphs.{AreEach, no_item}

pub one_more : (P : ItemHeld → Option PortHeld → Type 0) (is : List ItemHeld) (n : ℕ) (os new : List (Option PortHeld)) (o : Option PortHeld) → AreEach P is n os → P (get_or is n no_item) o → new ≡ os ++ o ∷ [] → AreEach P is (n + 1) new
one_more P is n os new o h so e =
    let l = length-append os (o ∷ []) in
    let c = h.count in
    subst (AreEach P is (n + 1)) (sym e) (record { count = omega arith; each = each_more (λ k x. P (get_or is k no_item) x) os n o None h.count h.each so })

pub all_each : (P : ItemHeld → Option PortHeld → Type 0) (is : List ItemHeld) (n : ℕ) (os : List (Option PortHeld)) → AreEach P is n os → n ≤ length is → length is ≤ n → AreEach P is (length is) os
all_each P is n os h low high = let e : n ≡ length is = omega arith in subst (λ k. AreEach P is k os) e h
