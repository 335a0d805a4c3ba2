-- Productions made from wirings.
use Rattle.std.proofs.Common.{◌≡◌, ℕ, zero, suc, ◌+◌, ◌<◌, ◌⊎◌, List, [], ◌∷◌, ◌++◌, map, length, get_or, set, take, Vec, sym, ap, ◌∙◌, subst, inl, inr, ⊎_elim, arith}
use Rattle.std.proofs.lemmas.List.{length-map, length-append, length-set, map-set, get_or-set_same, get_or-set_other, take_more, map-append}
use Rattle.std.specs.declared.alloc.Global.{Global}
use Rattle.wf_model.specs.declared.body.Inner.{Inner as InnerHeld}
use Rattle.wf_form.specs.declared.wiring.Wiring.{Wiring}
use Rattle.wf_model.specs.Lists.{IsIn, IsAt, AllDiffer}
use Rattle.wf_model.specs.Grammar.{Inner, Module, Production}
use Rattle.wf_model.specs.Meaning.{inner_of}
use Rattle.wf_model.proofs.Lists.{in_map, in_map_from, in_append_cases, at_below}
use Rattle.wf_form.specs.Assembling.{origin, AreByPort, IsRuleOf, AreRulesOf}
use Rattle.wf_spec.proofs.Tables.{get_in}
use Rattle.wf_model.proofs.Positions.{at_push}

-- where numbers differ, the next is none of those before it
not_before : {A : Type 0} (f : A → ℕ) (xs : List A) (k : ℕ) (d y : A) → k < length xs → AllDiffer (map f xs) → IsIn y (take k xs) → f y ≡ f (get_or xs k d) → ⊥
not_before f [] k d y inside differ here same = absurd (omega arith)
not_before f (x ∷ xs) zero d y inside differ here same = here
not_before f (x ∷ xs) (suc k) d y inside differ (inl e) same =
    differ.0 (subst (λ n. IsIn n (map f xs)) (sym same ∙ ap f e) (in_map f (get_or xs k d) xs (get_in k xs d (omega arith))))
not_before f (x ∷ xs) (suc k) d y inside differ (inr h) same = not_before f xs k d y (omega arith) differ.1 h same

-- no end is put yet
pub by_port_first : (ports : ℕ) (ends : List InnerHeld) → length ends ≡ ports → AreByPort ports [] (map inner_of ends)
by_port_first ports ends e = record { one_each = length-map ends inner_of ∙ e; each = λ l h. absurd h }

-- the port of a link has a place
pub end_below : {A : Type 0} (port : A → ℕ) (xs : List A) (k : ℕ) (d : A) (ends : Vec InnerHeld Global) (ports : ℕ) → ((n : ℕ) → IsIn n (map port xs) → n < ports) → k < length xs
    → length (map inner_of ends.items) ≡ ports → port (get_or xs k d) < ends.len
end_below port xs k d ends ports within inside count =
    let w = within (port (get_or xs k d)) (in_map port (get_or xs k d) xs (get_in k xs d inside)) in
    let e = ends.ok.0 in
    omega (arith, length-map ends.items inner_of)

-- one end more is put at its port
pub by_port_more : {A : Type 0} (port : A → ℕ) (held : A → InnerHeld) (ports : ℕ) (xs : List A) (k : ℕ) (d : A) (ends : List InnerHeld) → AllDiffer (map port xs)
    → ((n : ℕ) → IsIn n (map port xs) → n < ports) → k < length xs → AreByPort ports (map (λ a. (port a, inner_of (held a))) (take k xs)) (map inner_of ends)
    → AreByPort ports (map (λ a. (port a, inner_of (held a))) (take (k + 1) xs)) (map inner_of (set ends (port (get_or xs k d)) (held (get_or xs k d))))
by_port_more {A} port held ports xs k d ends differ within inside old = record {
  one_each = length-map (set ends at new) inner_of ∙ (length-set ends at new ∙ (sym (length-map ends inner_of) ∙ old.one_each));
  each = λ l h. ap (λ es. get_or es l.0 origin) (map-set inner_of ends at new) ∙ by l (subst (IsIn l) whole h);
}
  where
    one : A
    one = get_or xs k d

    at : ℕ
    at = port one

    new : InnerHeld
    new = held one

    link : A → ℕ × Inner
    link a = (port a, inner_of (held a))

    whole : map link (take (k + 1) xs) ≡ map link (take k xs) ++ link one ∷ []
    whole = ap (map link) (take_more xs k d inside) ∙ map-append link (take k xs) (one ∷ [])

    below : at < length (map inner_of ends)
    below = (let w = within at (in_map port one xs (get_in k xs d inside)) in let e = old.one_each in omega arith)

    by : (l : ℕ × Inner) → IsIn l (map link (take k xs) ++ link one ∷ []) → get_or (set (map inner_of ends) at (inner_of new)) l.0 origin ≡ l.1
    by l h = ⊎_elim earlier (λ b. ⊎_elim last (λ c. absurd c) b) (in_append_cases l (map link (take k xs)) (link one ∷ []) h)
      where
        earlier : IsIn l (map link (take k xs)) → get_or (set (map inner_of ends) at (inner_of new)) l.0 origin ≡ l.1
        earlier a =
            let r = in_map_from link l (take k xs) a in
            get_or-set_other (map inner_of ends) at l.0 (inner_of new) origin (λ e. not_before port xs k d r.0 inside differ r.1 (sym (ap (λ (p : ℕ × Inner). p.0) r.2) ∙ e))
            ∙ old.each l a

        last : l ≡ link one → get_or (set (map inner_of ends) at (inner_of new)) l.0 origin ≡ l.1
        last e =
            ap (λ (p : ℕ × Inner). get_or (set (map inner_of ends) at (inner_of new)) p.0 origin) e
            ∙ (get_or-set_same (map inner_of ends) at (inner_of new) origin below ∙ sym (ap (λ (p : ℕ × Inner). p.1) e))

-- the ports of links are those of the module that was read
pub within_read : {A : Type 0} (port : A → ℕ) (links read : List A) (names told : List (List ℕ)) → read ≡ links → told ≡ names → ((k : ℕ) → IsIn k (map port links) → k < length names)
    → (k : ℕ) → IsIn k (map port read) → k < length told
within_read port links read names told same is h k here = subst (λ ns. k < length ns) (sym is) (h k (subst (λ ls. IsIn k (map port ls)) same here))

-- one production more
pub rules_more : (modules : List Module) (ws : List Wiring) (w : Wiring) (old new : List Production) (r : Production) → AreRulesOf modules ws old → IsRuleOf modules w r → new ≡ old ++ r ∷ []
    → AreRulesOf modules (ws ++ w ∷ []) new
rules_more modules ws w old new r are one is = subst (AreRulesOf modules (ws ++ w ∷ [])) (sym is) (record {
  as_many = length-append old (r ∷ []) ∙ (ap (λ n. n + 1) are.as_many ∙ sym (length-append ws (w ∷ [])));
  each = λ k v q at_w at_q. by k v q (at_push v k ws w at_w) (at_push q k old r at_q);
})
  where
    by : (k : ℕ) (v : Wiring) (q : Production) → IsAt v k ws ⊎ ((k ≡ length ws) × (v ≡ w)) → IsAt q k old ⊎ ((k ≡ length old) × (q ≡ r)) → IsRuleOf modules v q
    by k v q (inl a) (inl b) = are.each k v q a b
    by k v q (inl a) (inr b) = absurd (let l = at_below v k ws a in let n = are.as_many in let e = b.0 in omega arith)
    by k v q (inr a) (inl b) = absurd (let l = at_below q k old b in let n = are.as_many in let e = a.0 in omega arith)
    by k v q (inr a) (inr b) = subst (λ x. IsRuleOf modules x q) (sym a.1) (subst (IsRuleOf modules w) (sym b.1) one)
