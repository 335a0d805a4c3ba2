-- What an expansion does to a table.
use Rattle.std.proofs.Common.{◌≡◌, ℕ, ◌+◌, ◌<◌, ◌≤◌, List, [], ◌∷◌, ◌++◌, map, set, get_or, length, refl, ap, sym, subst, ◌∙◌, arith, ⊎_elim, length-append}
use Rattle.std.proofs.lemmas.List.{length-map, set-append_left, get_or_append_left, get_or_read, map-append}
use Rattle.std.proofs.Math.Seq.{map-set_same}
use Rattle.wf_model.specs.Run.{Instance, named}
use Rattle.wf_model.proofs.Lists.{in_append_cases}
use Rattle.wf_model.specs.declared.body.Position.{Position}
use Rattle.wf_flat.specs.declared.table.Inst.{Inst}
use Rattle.wf_flat.specs.declared.table.Opened.{Opened}
use Rattle.wf_flat.specs.Table.{instance_of, names_in, IsOpenedIn, IsTableKept, children, expanded_by_no, no_instance, with_children}

abbrev pub module_of : Position → ℕ
module_of q = q.module.0

pub names-children : (k : ℕ) (names : List (List ℕ)) (qs : List Position) → length names ≡ length qs → names_in (children k names qs) ≡ names
names-children k [] qs e = refl
names-children k (n ∷ ns) [] e = absurd (omega arith)
names-children k (n ∷ ns) (q ∷ qs) e = let d : length ns ≡ length qs = omega arith in ap (λ l. n ∷ l) (names-children k ns qs d)

pub instances-children : (k : ℕ) (names : List (List ℕ)) (qs : List Position) → map instance_of (children k names qs) ≡ named names (map module_of qs)
instances-children k [] qs = refl
instances-children k (n ∷ ns) [] = refl
instances-children k (n ∷ ns) (q ∷ qs) = let i : Instance = record { name = n; module_no = q.module.0 } in ap (λ l. i ∷ l) (instances-children k ns qs)

-- an instance is changed in place where others were appended
pub changed_before : (f : Inst → Inst) (xs ys zs : List Inst) (k : ℕ) (x d : Inst) → k < length xs → zs ≡ xs ++ ys → x ≡ get_or zs k x → set zs k (f x) ≡ set xs k (f (get_or xs k d)) ++ ys
changed_before f xs ys zs k x d h z e =
    let r : x ≡ get_or xs k d = get_or_read xs k x h (e ∙ (ap (λ l. get_or l k x) z ∙ get_or_append_left xs ys x k h)) d in
    ap (λ l. set l k (f x)) z ∙ (set-append_left xs ys k (f x) h ∙ ap (λ y. set xs k (f y) ++ ys) r)

pub seen_with_children : {B : Type 0} (f : Inst → B) (xs : List Inst) (o : Opened) (names : List (List ℕ)) (qs : List Position) →
    ((x : Inst) → f (expanded_by_no o.production o.first x) ≡ f x) → map f (with_children xs o names qs) ≡ map f xs ++ map f (children o.instance names qs)
seen_with_children f xs o names qs h =
    map-append f (set xs o.instance (expanded_by_no o.production o.first (get_or xs o.instance no_instance))) (children o.instance names qs)
    ∙ ap (λ l. l ++ map f (children o.instance names qs)) (map-set_same f xs o.instance (expanded_by_no o.production o.first (get_or xs o.instance no_instance)) no_instance (h (get_or xs o.instance no_instance)))

pub names-with_children : (xs : List Inst) (o : Opened) (names : List (List ℕ)) (qs : List Position) → length names ≡ length qs → names_in (with_children xs o names qs) ≡ names_in xs ++ names
names-with_children xs o names qs e =
    seen_with_children (λ (x : Inst). x.name) xs o names qs (λ x. refl) ∙ ap (λ l. names_in xs ++ l) (names-children o.instance names qs e)

pub instances-with_children : (xs : List Inst) (o : Opened) (names : List (List ℕ)) (qs : List Position) → map instance_of (with_children xs o names qs) ≡ map instance_of xs ++ named names (map module_of qs)
instances-with_children xs o names qs =
    seen_with_children instance_of xs o names qs (λ x. refl) ∙ ap (λ l. map instance_of xs ++ l) (instances-children o.instance names qs)

pub length-with_children : (xs : List Inst) (o : Opened) (names : List (List ℕ)) (qs : List Position) → length names ≡ length qs → length (with_children xs o names qs) ≡ length xs + length names
length-with_children xs o names qs e =
    let a : length (names_in (with_children xs o names qs)) ≡ length (names_in xs ++ names) = ap length (names-with_children xs o names qs e) in
    omega (arith, length-map (with_children xs o names qs) (λ (x : Inst). x.name), length-map xs (λ (x : Inst). x.name), length-append (names_in xs) names)

pub kept_more : (most : ℕ) (taken : List (List ℕ)) (xs : List Inst) (order : List Opened) (o : Opened) (names : List (List ℕ)) (qs : List Position) →
    IsTableKept most taken xs order → o.instance < length xs → o.first ≡ length xs → o.count ≡ length names → length names ≡ length qs → length xs + length names ≤ most →
    IsTableKept most (taken ++ names) (with_children xs o names qs) (order ++ o ∷ [])
kept_more most taken xs order o names qs k h f c e m =
    let n = length-with_children xs o names qs e in
    record {
      same_names = ap (λ l. l ++ names) k.same_names ∙ sym (names-with_children xs o names qs e);
      few = let a : length xs + length names ≤ most = m in let b : length (with_children xs o names qs) ≡ length xs + length names = n in omega arith;
      opened = λ q i. subst (λ l. IsOpenedIn l q) (sym n) (⊎_elim
          (λ a. let r = k.opened q a in let r0 : q.instance < length xs = r.0 in let r1 : 0 < q.first = r.1 in let r2 : q.first + q.count ≤ length xs = r.2 in (omega arith, r1, omega arith))
          (λ a. ⊎_elim (λ (d : q ≡ o). subst (λ z. IsOpenedIn (length xs + length names) z) (sym d) (omega arith, omega arith, omega arith)) (λ z. absurd z) a)
          (in_append_cases q order (o ∷ []) i));
    }
