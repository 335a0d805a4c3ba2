-- The items of the root's ports, by number.
use Rattle.std.proofs.Common.{◌≡◌, ℕ, zero, suc, ◌+◌, ◌<◌, List, [], ◌∷◌, ◌++◌, length, get_or, Some, None, refl, ap, sym, subst, ◌∙◌, arith, inl, inr, ⊎_elim, bytes_eq}
use Rattle.std.specs.Prelude.{position}
use Rattle.std.proofs.lemmas.List.Quantifiers.{position-Some}
use Rattle.wf_model.specs.Lists.{IsIn}
use Rattle.wf_model.specs.Items.{input_items, output_items}
use Rattle.wf_model.proofs.Lists.{in_append_cases, in_append_left, in_append_right, same_bytes, bytes_same}
use Rattle.wf_model.proofs.ItemNames.{input_item, output_item}
use Rattle.wf_flat.proofs.Dots.{none_passes}

input_there : (r : List ℕ) (k i : ℕ) (ns : List (List ℕ)) → i < length ns → IsIn (input_item r (k + i) (get_or ns i [])) (input_items r k ns)
input_there r k i [] h = absurd (omega arith)
input_there r k zero (n ∷ ns) h = let e : k + 0 ≡ k = omega arith in inl (ap (λ j. input_item r j n) e)
input_there r k (suc i) (n ∷ ns) h =
    let l : i < length ns = omega arith in
    let e : suc k + i ≡ k + suc i = omega arith in
    inr (subst (λ j. IsIn (input_item r j (get_or ns i [])) (input_items r (suc k) ns)) e (input_there r (suc k) i ns l))

output_there : (r : List ℕ) (k i : ℕ) (ns : List (List ℕ)) → i < length ns → IsIn (output_item r (k + i) (get_or ns i [])) (output_items r k ns)
output_there r k i [] h = absurd (omega arith)
output_there r k zero (n ∷ ns) h = let e : k + 0 ≡ k = omega arith in inl (ap (λ j. output_item r j n) e)
output_there r k (suc i) (n ∷ ns) h =
    let l : i < length ns = omega arith in
    let e : suc k + i ≡ k + suc i = omega arith in
    inr (subst (λ j. IsIn (output_item r j (get_or ns i [])) (output_items r (suc k) ns)) e (output_there r (suc k) i ns l))

-- the item of the input of this name
pub of_input : (r port : List ℕ) (i : ℕ) (ins outs held : List (List ℕ)) → held ≡ ins → Some i ≡ position (bytes_eq port) held → IsIn (input_item r i port) (input_items r 0 ins ++ output_items r 0 outs)
of_input r port i ins outs held h e =
    let p = position-Some (bytes_eq port) ins i [] (ap (position (bytes_eq port)) (sym h) ∙ sym e) in
    let n : 0 + i ≡ i = omega arith in
    in_append_left (input_item r i port) (input_items r 0 ins) (output_items r 0 outs)
    (subst (λ z. IsIn (input_item r i z) (input_items r 0 ins)) (sym (same_bytes port (get_or ins i []) p.1)) (subst (λ j. IsIn (input_item r j (get_or ins i [])) (input_items r 0 ins)) n (input_there r 0 i ins p.0)))

-- the item of the output of this name
pub of_output : (r port : List ℕ) (i : ℕ) (ins outs held : List (List ℕ)) → held ≡ outs → Some i ≡ position (bytes_eq port) held → IsIn (output_item r i port) (input_items r 0 ins ++ output_items r 0 outs)
of_output r port i ins outs held h e =
    let p = position-Some (bytes_eq port) outs i [] (ap (position (bytes_eq port)) (sym h) ∙ sym e) in
    let n : 0 + i ≡ i = omega arith in
    in_append_right (output_item r i port) (input_items r 0 ins) (output_items r 0 outs)
    (subst (λ z. IsIn (output_item r i z) (output_items r 0 outs)) (sym (same_bytes port (get_or outs i []) p.1)) (subst (λ j. IsIn (output_item r j (get_or outs i [])) (output_items r 0 outs)) n (output_there r 0 i outs p.0)))

-- a name that is found neither among the inputs nor among the outputs
pub of_neither : (port : List ℕ) (ins outs held_ins held_outs : List (List ℕ)) → held_ins ≡ ins → held_outs ≡ outs → None ≡ position (bytes_eq port) held_ins → None ≡ position (bytes_eq port) held_outs → IsIn port (ins ++ outs) → ⊥
of_neither port ins outs held_ins held_outs a b e f h =
    ⊎_elim
    (λ k. none_passes (bytes_eq port) ins (ap (position (bytes_eq port)) (sym a) ∙ sym e) port k (bytes_same port port refl))
    (λ k. none_passes (bytes_eq port) outs (ap (position (bytes_eq port)) (sym b) ∙ sym f) port k (bytes_same port port refl))
    (in_append_cases port ins outs h)
