-- A run whose root is open, as one level: the wiring of the root's body, and the runs of the children below it.
use Rattle.std.proofs.Common.{◌≡◌, ℕ, zero, suc, ◌+◌, ◌<◌, ◌≤◌, ◌⊎◌, Bool, true, false, cond, List, [], ◌∷◌, ◌++◌, map, length, flat_map, bytes_eq, Option, Some, None, refl, sym, ap, ◌∙◌, subst, inl, inr, ⊎_elim, arith, append_assoc}
use Rattle.wf_model.specs.Lists.{IsIn, IsAt, numbers_from}
use Rattle.wf_model.specs.Grammar.{Grammar, Assignment, Inner, production_at, inputs_of, outputs_of, head_of, body_of}
use Rattle.wf_model.specs.WellFormed.{IsWellFormed, IsWellFormedBody}
use Rattle.wf_model.specs.View.{View, expands}
use Rattle.wf_model.specs.declared.event.Event.{Event}
use Rattle.wf_model.specs.declared.event.Event.TheVariants.{Start, Expand}
use Rattle.wf_model.specs.Run.{Instance, Expanded, named, made_by, made, names_of, expanded_by, AllExtend, IsRun, seen_in}
use Rattle.wf_model.specs.Links.{Port, Link, input, output, edge_link, entry_links, exit_links, wiring, pair_links, place_links, instance_at, move_link, opened_links, links_of, links_with, IsLinked}
use Rattle.wf_model.proofs.Lists.{in_append_left, in_append_right, in_append_cases, in_map_from, in_flat_map, in_flat_map_from, same_bytes, at_below, is_at, at_in}
use Rattle.wf_model.proofs.Runs.{names-named, name_in, name_from, made-append, run_state}

-- where the links of a body begin, and where they end
abbrev pub IsSource : Grammar → ℕ → Port (Option ℕ) → Type 0
IsSource g p x =
    ((k : ℕ) × (i : ℕ) × (m : ℕ) × (x ≡ output (Some k) i) × IsAt m k (body_of g p) × (i < outputs_of g m)) ⊎
    ((i : ℕ) × (x ≡ input None i) × (i < inputs_of g (head_of g p)))

abbrev pub IsTarget : Grammar → ℕ → Port (Option ℕ) → Type 0
IsTarget g p x =
    ((k : ℕ) × (i : ℕ) × (m : ℕ) × (x ≡ input (Some k) i) × IsAt m k (body_of g p) × (i < inputs_of g m)) ⊎
    ((i : ℕ) × (x ≡ output None i) × (i < outputs_of g (head_of g p)))

pub in_entry_links : (l : Link (Option ℕ)) (k : ℕ) (is : List Inner) → IsIn l (entry_links k is) → (i : Inner) × IsIn i is × (h : ℕ) × (h < k + length is) × (l ≡ record { from = input None h; to = input (Some i.position) i.port })
in_entry_links l k [] q = absurd q
in_entry_links l k (i ∷ is) (inl e) = (i, inl refl, k, omega arith, e)
in_entry_links l k (i ∷ is) (inr q) = let r = in_entry_links l (suc k) is q in (r.0, inr r.1, r.2, (let b : r.2 < suc k + length is = r.3 in omega arith), r.4)

pub in_exit_links : (l : Link (Option ℕ)) (k : ℕ) (is : List Inner) → IsIn l (exit_links k is) → (i : Inner) × IsIn i is × (h : ℕ) × (h < k + length is) × (l ≡ record { from = output (Some i.position) i.port; to = output None h })
in_exit_links l k [] q = absurd q
in_exit_links l k (i ∷ is) (inl e) = (i, inl refl, k, omega arith, e)
in_exit_links l k (i ∷ is) (inr q) = let r = in_exit_links l (suc k) is q in (r.0, inr r.1, r.2, (let b : r.2 < suc k + length is = r.3 in omega arith), r.4)

pub wiring_from : (g : Grammar) (p : ℕ) → IsWellFormedBody g p → (l : Link (Option ℕ)) → IsIn l (wiring g p) → IsSource g p l.from
wiring_from g p wf l h =
    let r = production_at g p in
    ⊎_elim
    (λ a. let e = in_map_from edge_link l r.edges a in let w = wf.edges_from e.0 e.1 in
    inl (e.0.from.position, e.0.from.port, w.0, ap (λ (z : Link (Option ℕ)). z.from) e.2, w.1, w.2))
    (λ b. ⊎_elim
    (λ a. let e = in_entry_links l 0 r.entries a in
    inr (e.2, ap (λ (z : Link (Option ℕ)). z.from) e.4, (let q : e.2 < 0 + length r.entries = e.3 in omega (arith, wf.one_entry_each))))
    (λ a. let e = in_exit_links l 0 r.exits a in let w = wf.exits_from e.0 e.1 in
    inl (e.0.position, e.0.port, w.0, ap (λ (z : Link (Option ℕ)). z.from) e.4, w.1, w.2))
    (in_append_cases l (entry_links 0 r.entries) (exit_links 0 r.exits) b))
    (in_append_cases l (map edge_link r.edges) (entry_links 0 r.entries ++ exit_links 0 r.exits) h)

pub wiring_to : (g : Grammar) (p : ℕ) → IsWellFormedBody g p → (l : Link (Option ℕ)) → IsIn l (wiring g p) → IsTarget g p l.to
wiring_to g p wf l h =
    let r = production_at g p in
    ⊎_elim
    (λ a. let e = in_map_from edge_link l r.edges a in let w = wf.edges_to e.0 e.1 in
    inl (e.0.to.position, e.0.to.port, w.0, ap (λ (z : Link (Option ℕ)). z.to) e.2, w.1, w.2))
    (λ b. ⊎_elim
    (λ a. let e = in_entry_links l 0 r.entries a in let w = wf.entries_to e.0 e.1 in
    inl (e.0.position, e.0.port, w.0, ap (λ (z : Link (Option ℕ)). z.to) e.4, w.1, w.2))
    (λ a. let e = in_exit_links l 0 r.exits a in
    inr (e.2, ap (λ (z : Link (Option ℕ)). z.to) e.4, (let q : e.2 < 0 + length r.exits = e.3 in omega (arith, wf.one_exit_each))))
    (in_append_cases l (entry_links 0 r.entries) (exit_links 0 r.exits) b))
    (in_append_cases l (map edge_link r.edges) (entry_links 0 r.entries ++ exit_links 0 r.exits) h)

pub in_numbers : (i k n : ℕ) → IsIn i (numbers_from k n) → i < k + n
in_numbers i k zero h = absurd h
in_numbers i k (suc n) (inl e) = omega arith
in_numbers i k (suc n) (inr h) = let r : i < suc k + n = in_numbers i (suc k) n h in omega arith

pub numbers_in : (i k n : ℕ) → k ≤ i → i < k + n → IsIn i (numbers_from k n)
numbers_in i k zero a b = absurd (omega arith)
numbers_in i k (suc n) a b = ⊎_elim (λ e. inl e) (λ q. inr (numbers_in i (suc k) n q (omega arith))) cases
  where
    cases : (i ≡ k) ⊎ (suc k ≤ i)
    cases = grind arith

pub pair_links_from : {A : Type 0} (g : Grammar) (d : Assignment) (m : ℕ) (a : A) (l : Link A) → IsIn l (pair_links g d m a) → (i : ℕ) × (o : ℕ) × (i < inputs_of g m) × (o < outputs_of g m) × (d m i o ≡ true) × (l ≡ record { from = input a i; to = output a o })
pair_links_from {A} g d m a l h =
    let r = in_flat_map_from (λ i. flat_map (λ o. cond (d m i o) (record { from = input a i; to = output a o } ∷ []) []) (numbers_from 0 (outputs_of g m))) l (numbers_from 0 (inputs_of g m)) h in
    let s = in_flat_map_from (λ o. cond (d m r.0 o) (record { from = input a r.0; to = output a o } ∷ []) []) l (numbers_from 0 (outputs_of g m)) r.2 in
    let t = one r.0 s.0 (d m r.0 s.0) s.2 in
    (r.0, s.0, omega (arith, in_numbers r.0 0 (inputs_of g m) r.1), omega (arith, in_numbers s.0 0 (outputs_of g m) s.1), t.0, t.1)
  where
    one : (i o : ℕ) (b : Bool) → IsIn l (cond b (record { from = input a i; to = output a o } ∷ []) []) → (b ≡ true) × (l ≡ record { from = input a i; to = output a o })
    one i o true (inl e) = (refl, e)
    one i o true (inr q) = absurd q
    one i o false q = absurd q

pub pair_links_in : {A : Type 0} (g : Grammar) (d : Assignment) (m : ℕ) (a : A) (i o : ℕ) → i < inputs_of g m → o < outputs_of g m → d m i o ≡ true → IsLinked (pair_links g d m a) (input a i) (output a o)
pair_links_in {A} g d m a i o hi ho t =
    in_flat_map (λ i. flat_map (λ o. cond (d m i o) (record { from = input a i; to = output a o } ∷ []) []) (numbers_from 0 (outputs_of g m))) i _ (numbers_from 0 (inputs_of g m)) (numbers_in i 0 (inputs_of g m) (omega arith) (omega arith))
    (in_flat_map (λ o. cond (d m i o) (record { from = input a i; to = output a o } ∷ []) []) o _ (numbers_from 0 (outputs_of g m)) (numbers_in o 0 (outputs_of g m) (omega arith) (omega arith))
    (subst (λ b. IsIn {A = Link A} (record { from = input a i; to = output a o }) (cond b (record { from = input a i; to = output a o } ∷ []) [])) (sym t) (inl refl)))

pub place_links_from : (g : Grammar) (d : Assignment) (l : Link (Option ℕ)) (k : ℕ) (ms : List ℕ) → IsIn l (place_links g d k ms) → (j : ℕ) × (m : ℕ) × IsAt m j ms × IsIn l (pair_links g d m (Some (k + j)))
place_links_from g d l k [] h = absurd h
place_links_from g d l k (m ∷ ms) h =
    ⊎_elim
    (λ a. (0, m, refl, (let e : k ≡ k + 0 = omega arith in subst (λ z. IsIn l (pair_links g d m (Some z))) e a)))
    (λ b. let r = place_links_from g d l (suc k) ms b in
    (suc r.0, r.1, r.2, (let e : suc k + r.0 ≡ k + suc r.0 = omega arith in subst (λ z. IsIn l (pair_links g d r.1 (Some z))) e r.3)))
    (in_append_cases l (pair_links g d m (Some k)) (place_links g d (suc k) ms) h)

pub place_links_in : (g : Grammar) (d : Assignment) (l : Link (Option ℕ)) (k : ℕ) (ms : List ℕ) (j m : ℕ) → IsAt m j ms → IsIn l (pair_links g d m (Some (k + j))) → IsIn l (place_links g d k ms)
place_links_in g d l k [] j m h q = absurd h
place_links_in g d l k (a ∷ ms) zero m h q =
    in_append_left l _ _ (subst (λ z. IsIn l (pair_links g d z (Some k))) h (let e : k + 0 ≡ k = omega arith in subst (λ z. IsIn l (pair_links g d m (Some z))) e q))
place_links_in g d l k (a ∷ ms) (suc j) m h q =
    in_append_right l (pair_links g d a (Some k)) _ (place_links_in g d l (suc k) ms j m h (let e : k + suc j ≡ suc k + j = omega arith in subst (λ z. IsIn l (pair_links g d m (Some z))) e q))

-- what an expansion that a run tells of is
pub record IsOpening (g : Grammar) (m : ℕ) (b a : List Event) (n : List ℕ) (x : Expanded) : Type 0 where
  pub in_range : x.production < length g.productions
  pub one_each : length x.names ≡ length (body_of g x.production)
  pub names_made : (c : List ℕ) → IsIn c x.names → IsIn c (names_of (made g m a))
  pub stands : IsIn (record { name = n; module_no = head_of g x.production }) (made g m (b ++ a))

later_made : (g : Grammar) (m : ℕ) (e : Event) (a : List Event) (c : List ℕ) → IsIn c (names_of (made g m a)) → IsIn c (names_of (made g m (e ∷ a)))
later_made g m e a c h =
    let r = name_from c (made g m a) h in
    subst (λ z. IsIn z (names_of (made g m (e ∷ a)))) (sym r.2) (name_in r.0 (made g m (e ∷ a)) (in_append_right r.0 (made_by g m e) (made g m a) r.1))

pub opening : (g : Grammar) (m : ℕ) (b a : List Event) (n : List ℕ) (x : Expanded) → AllExtend g m b a → expanded_by a n ≡ Some x → IsOpening g m b a n x
opening g m b [] n x h e = absurd (cc)
opening g m b (Start r ∷ a) n x h e =
    let o = opening g m (b ++ Start r ∷ []) a n x h.1 e in
    record { in_range = o.in_range; one_each = o.one_each; names_made = λ c q. later_made g m (Start r) a c (o.names_made c q); stands = subst (λ l. IsIn (record { name = n; module_no = head_of g x.production }) (made g m l)) (append_assoc b (Start r ∷ []) a) o.stands }
opening g m b (Expand i p new ∷ a) n x h e = go (opening g m (b ++ Expand i p new ∷ []) a n x h.1) (bytes_eq i n) e refl
  where
    go : (expanded_by a n ≡ Some x → IsOpening g m (b ++ Expand i p new ∷ []) a n x) → (t : Bool) → cond t (Some (record { production = p; names = new })) (expanded_by a n) ≡ Some x → bytes_eq i n ≡ t → IsOpening g m b (Expand i p new ∷ a) n x
    go ih false q t =
        let o = ih q in
        record { in_range = o.in_range; one_each = o.one_each; names_made = λ c z. later_made g m (Expand i p new) a c (o.names_made c z); stands = subst (λ l. IsIn (record { name = n; module_no = head_of g x.production }) (made g m l)) (append_assoc b (Expand i p new ∷ []) a) o.stands }
    go ih true q t =
        let s : ◌≡◌ {A = Expanded} (record { production = p; names = new }) x = cc in
        subst (IsOpening g m b (Expand i p new ∷ a) n) s (record {
          in_range = h.0.in_range;
          one_each = h.0.one_each;
          stands = subst (λ z. IsIn (record { name = z; module_no = head_of g p }) (made g m (b ++ Expand i p new ∷ a))) (same_bytes i n t) (subst (IsIn _) (sym (made-append g m b (Expand i p new ∷ a))) (in_append_left _ (made g m b) (made g m (Expand i p new ∷ a)) h.0.stands));
          names_made = λ c z.
              let k : IsIn c (names_of (named new (body_of g p))) = subst (λ l. IsIn c l) (sym (names-named new (body_of g p) h.0.one_each)) z in
              let r = name_from c (named new (body_of g p)) k in
              subst (λ l. IsIn l (names_of (made g m (Expand i p new ∷ a)))) (sym r.2) (name_in r.0 (made g m (Expand i p new ∷ a)) (in_append_left r.0 (named new (body_of g p)) (made g m a) r.1));
        })

-- the links of a run lead between instances that it made
pub record IsBetween (names : List (List ℕ)) (l : Link (List ℕ)) : Type 0 where
  pub from : IsIn l.from.owner names
  pub to : IsIn l.to.owner names

pub links_between : (g : Grammar) (u : View) (leaf : Assignment) (m : ℕ) (a : List Event) → IsWellFormed g → IsRun g m a → (l : Link (List ℕ)) → IsIn l (links_with g u leaf m a) → IsBetween (names_of (made g m a)) l
links_between g u leaf m a wf run l h =
    let r = in_flat_map_from (links_of g u leaf a) l (seen_in g u m a) h in
    let own = name_in r.0 (made g m a) ((run_state g u m a run).seen_made r.0 r.1) in
    go r.0 own (expands u r.0.module_no) r.2
  where
    place : (j : Instance) (x : Expanded) → IsIn j.name (names_of (made g m a)) → expanded_by a j.name ≡ Some x → (k : Option ℕ) → ((i : ℕ) → k ≡ Some i → i < length x.names) → IsIn (instance_at j.name x.names k) (names_of (made g m a))
    place j x own e None b = own
    place j x own e (Some k) b = (opening g m [] a j.name x run e).names_made _ (at_in _ k x.names (is_at k x.names [] (b k refl)))

    opened : (j : Instance) (x : Expanded) → IsIn j.name (names_of (made g m a)) → expanded_by a j.name ≡ Some x → IsIn l (map (move_link (instance_at j.name x.names)) (wiring g x.production)) → IsBetween (names_of (made g m a)) l
    opened j x own e q =
        let o = opening g m [] a j.name x run e in
        let w = in_map_from (move_link (instance_at j.name x.names)) l (wiring g x.production) q in
        let body = wf.bodies x.production o.in_range in
        record {
          from = subst (λ (z : Link (List ℕ)). IsIn z.from.owner (names_of (made g m a))) (sym w.2)
              (place j x own e w.0.from.owner (λ i d. ⊎_elim
              (λ c. let s : Some c.0 ≡ Some i = ap (λ (z : Port (Option ℕ)). z.owner) (sym c.3) ∙ d in let t : c.0 ≡ i = cc in let k = at_below c.2 c.0 (body_of g x.production) c.4 in omega (arith, o.one_each))
              (λ c. let s : None ≡ Some i = ap (λ (z : Port (Option ℕ)). z.owner) (sym c.1) ∙ d in absurd (cc))
              (wiring_from g x.production body w.0 w.1)));
          to = subst (λ (z : Link (List ℕ)). IsIn z.to.owner (names_of (made g m a))) (sym w.2)
              (place j x own e w.0.to.owner (λ i d. ⊎_elim
              (λ c. let s : Some c.0 ≡ Some i = ap (λ (z : Port (Option ℕ)). z.owner) (sym c.3) ∙ d in let t : c.0 ≡ i = cc in let k = at_below c.2 c.0 (body_of g x.production) c.4 in omega (arith, o.one_each))
              (λ c. let s : None ≡ Some i = ap (λ (z : Port (Option ℕ)). z.owner) (sym c.1) ∙ d in absurd (cc))
              (wiring_to g x.production body w.0 w.1)));
        }

    pairs_of : (j : Instance) → IsIn j.name (names_of (made g m a)) → IsIn l (pair_links g leaf j.module_no j.name) → IsBetween (names_of (made g m a)) l
    pairs_of j own q =
        let w = pair_links_from g leaf j.module_no j.name l q in
        record {
          from = subst (λ (z : Link (List ℕ)). IsIn z.from.owner (names_of (made g m a))) (sym w.5) own;
          to = subst (λ (z : Link (List ℕ)). IsIn z.to.owner (names_of (made g m a))) (sym w.5) own;
        }

    open_or_not : (j : Instance) → IsIn j.name (names_of (made g m a)) → (o : Option Expanded) → expanded_by a j.name ≡ o → IsIn l (opened_links g leaf j o) → IsBetween (names_of (made g m a)) l
    open_or_not j own None e q = pairs_of j own q
    open_or_not j own (Some x) e q = opened j x own e q

    go : (j : Instance) → IsIn j.name (names_of (made g m a)) → (b : Bool) → IsIn l (cond b (opened_links g leaf j (expanded_by a j.name)) (pair_links g leaf j.module_no j.name)) → IsBetween (names_of (made g m a)) l
    go j own true q = open_or_not j own (expanded_by a j.name) refl q
    go j own false q = pairs_of j own q
