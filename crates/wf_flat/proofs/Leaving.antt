-- The edges of a body that leave a port.
use Rattle.std.proofs.Common.{◌≡◌, ℕ, zero, suc, ◌⊎◌, Bool, true, false, ◌&&◌, List, [], ◌∷◌, take, map, get_or, refl, ap, sym, subst, ◌∙◌, arith, inl, inr, ⊎_elim, true≢false}
use Rattle.std.specs.Prelude.{◌==◌}
use Rattle.std.proofs.lemmas.Bool.Decides.{nat_tests}
use Rattle.wf_model.specs.declared.body.Inner.{Inner as InnerHeld}
use Rattle.wf_model.specs.declared.body.Edge.{Edge as EdgeHeld}
use Rattle.wf_model.specs.Lists.{IsIn}
use Rattle.wf_model.specs.Grammar.{Inner, Edge}
use Rattle.wf_model.specs.Meaning.{edge_of, inner_of}
use Rattle.wf_model.proofs.Lists.{in_map_from}

both : (a b : Bool) → true ≡ a && b → (a ≡ true) × (b ≡ true)
both true b e = (refl, sym e)
both false b e = absurd (true≢false e)

-- two ports whose numbers are tested to be equal are one
pub same_port : (i j : InnerHeld) → true ≡ (i.pos.0 == j.pos.0) && (i.port.0 == j.port.0) → i ≡ j
same_port i j e =
    let r = both (i.pos.0 == j.pos.0) (i.port.0 == j.port.0) e in
    let p : i.pos.0 ≡ j.pos.0 = num (i.pos.0) (j.pos.0) r.0 in
    let q : i.port.0 ≡ j.port.0 = num (i.port.0) (j.port.0) r.1 in
    λ z. record { pos = record { 0 = p z }; port = record { 0 = q z } }
  where
    num : (a b : ℕ) → a == b ≡ true → a ≡ b
    num a b e = grind (arith, nat_tests)

pub other_port : (i j : InnerHeld) → false ≡ (i.pos.0 == j.pos.0) && (i.port.0 == j.port.0) → i ≡ j → ⊥
other_port i j e s =
    true≢false (sym (ap (λ (k : InnerHeld). (k.pos.0 == j.pos.0) && (k.port.0 == j.port.0)) s ∙ same (j.pos.0) (j.port.0)) ∙ sym e)
  where
    one : (a : ℕ) → a == a ≡ true
    one a = grind (arith, nat_tests)

    same : (a b : ℕ) → (a == a) && (b == b) ≡ true
    same a b = ap (λ t. t && (b == b)) (one a) ∙ one b

-- one element more of a list
pub in_take_more : {A : Type 0} (x d : A) (k : ℕ) (xs : List A) → IsIn x (take (suc k) xs) → IsIn x (take k xs) ⊎ (x ≡ get_or xs k d)
in_take_more x d k [] h = absurd h
in_take_more x d zero (y ∷ xs) (inl e) = inr e
in_take_more x d zero (y ∷ xs) (inr h) = absurd h
in_take_more x d (suc k) (y ∷ xs) (inl e) = inl (inl e)
in_take_more x d (suc k) (y ∷ xs) (inr h) = ⊎_elim (λ a. inl (inr a)) (λ b. inr b) (in_take_more x d k xs h)

-- no edge of a body leaves a port where none of those held does
pub none_leaves : (held : List EdgeHeld) (edges : List Edge) (i : InnerHeld) (from : Inner) → map edge_of held ≡ edges → inner_of i ≡ from → ((e : EdgeHeld) → IsIn e held → e.from ≡ i → ⊥) → (e : Edge) → IsIn e edges → e.from ≡ from → ⊥
none_leaves held edges i from a b h e k s =
    let r = in_map_from edge_of e held (subst (IsIn e) (sym a) k) in
    let f : inner_of r.0.from ≡ inner_of i = ap (λ (z : Edge). z.from) (sym r.2) ∙ (s ∙ sym b) in
    let p : r.0.from.pos.0 ≡ i.pos.0 = ap (λ (z : Inner). z.position) f in
    let q : r.0.from.port.0 ≡ i.port.0 = ap (λ (z : Inner). z.port) f in
    h r.0 r.1 (λ z. record { pos = record { 0 = p z }; port = record { 0 = q z } })
