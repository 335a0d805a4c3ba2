-- A table that stands for a run goes on standing for it, an event later.
use Rattle.std.proofs.Common.{◌≡◌, ℕ, zero, suc, ◌+◌, ◌<◌, ◌≤◌, ◌⊎◌, cond, List, [], ◌∷◌, ◌++◌, map, take, drop, set, get_or, length, Option, Some, None, refl, ap, sym, subst, ◌∙◌, arith, inl, inr, ⊎_elim, append_assoc}
use Rattle.std.specs.Prelude.{option_map, MatchOption}
use Rattle.std.proofs.lemmas.List.{length-map, map-append, take-append-le, drop-append-le, drop_at, take_all, get_or_append_left, get_or-set_same, get_or-set_other, length-set, length-drop}
use Rattle.std.proofs.lemmas.Simd.{map-map}
use Rattle.wf_model.specs.declared.event.Event.TheVariants.{Start, Expand}
use Rattle.wf_model.specs.declared.numbers.ProdNo.{ProdNo}
use Rattle.wf_model.specs.declared.numbers.ModNo.{ModNo}
use Rattle.wf_model.specs.declared.body.Position.{Position}
use Rattle.wf_model.specs.Lists.{IsIn, IsAt, AllDiffer}
use Rattle.wf_model.specs.Grammar.{Grammar, Production, Position as PositionSeen, production_at, body_of}
use Rattle.wf_model.specs.Meaning.{position_of}
use Rattle.wf_model.specs.Faults.{fault_of}
use Rattle.wf_model.specs.Run.{Instance, Expanded, named, made, names_of, expanded_by, CanExpand, IsAccepted}
use Rattle.wf_model.proofs.Lists.{in_append_cases, at_below, at_in, at_is, is_at, differ_at, bytes_same}
use Rattle.wf_model.proofs.Runs.{made_more, expansion_later, expansion_other, run_state, AllExtend-append}
use Rattle.wf_model.proofs.Taking.{run_differs, length-named, taking_law}
use Rattle.wf_model.proofs.Mapping.{at_map, map_same}
use Rattle.wf_flat.specs.declared.table.Inst.{Inst}
use Rattle.wf_flat.specs.declared.table.Opened.{Opened}
use Rattle.wf_flat.specs.Table.{Table, IsTableOf, IsParentAt, IsTableKept, IsOpenedIn, instance_of, names_in, given_names, expansion_of, events_by, events_of, expansion_at, children, expanded_by_no, no_instance, opened_table, root_instance, started_table}
use Rattle.wf_flat.proofs.Tables.{names-with_children, instances-with_children, length-with_children, module_of}

-- a part of a list is the same where others follow
pub part_kept : {A : Type 0} (a n : ℕ) (xs ys : List A) → a + n ≤ length xs → take n (drop a (xs ++ ys)) ≡ take n (drop a xs)
part_kept a n xs ys h =
    let l : a ≤ length xs = omega arith in
    let m : n ≤ length (drop a xs) = omega (arith, length-drop a xs) in
    ap (take n) (drop-append-le a xs ys l) ∙ take-append-le n (drop a xs) ys m

pub part_new : {A : Type 0} (a n : ℕ) (xs ys : List A) → a ≡ length xs → n ≡ length ys → take n (drop a (xs ++ ys)) ≡ ys
part_new a n xs ys e h = ap (take n) (drop_at xs ys a (sym e)) ∙ (let l : length ys ≤ n = omega arith in take_all n ys l)

-- the events of a table to which an expansion is added
pub events_more : (names new : List (List ℕ)) (order : List Opened) (o : Opened) → ((q : Opened) → IsIn q order → IsOpenedIn (length names) q) → o.instance < length names → o.first ≡ length names → o.count ≡ length new →
    events_by (names ++ new) (order ++ o ∷ []) ≡ events_by names order ++ Expand (get_or names o.instance []) o.production.0 new ∷ []
events_more names new order o k h f c =
    let one : 1 ≤ length names = omega arith in
    ap (λ l. map Start l ++ map (expansion_of (names ++ new)) (order ++ o ∷ [])) (take-append-le 1 names new one)
    ∙ (ap (λ l. map Start (take 1 names) ++ l) (map-append (expansion_of (names ++ new)) order (o ∷ [])
    ∙ (ap (λ l. l ++ expansion_of (names ++ new) o ∷ []) (map_same (expansion_of (names ++ new)) (expansion_of names) order same)
    ∙ ap (λ e. map (expansion_of names) order ++ e ∷ []) last))
    ∙ sym (append_assoc (map Start (take 1 names)) (map (expansion_of names) order) (Expand (get_or names o.instance []) o.production.0 new ∷ [])))
  where
    same : (q : Opened) → IsIn q order → expansion_of (names ++ new) q ≡ expansion_of names q
    same q i =
        let r = k q i in
        ap (λ n. Expand n q.production.0 (given_names (names ++ new) q)) (get_or_append_left names new [] q.instance r.0)
        ∙ ap (λ l. Expand (get_or names q.instance []) q.production.0 l) (part_kept q.first q.count names new r.2)

    last : expansion_of (names ++ new) o ≡ Expand (get_or names o.instance []) o.production.0 new
    last =
        ap (λ n. Expand n o.production.0 (given_names (names ++ new) o)) (get_or_append_left names new [] o.instance h)
        ∙ ap (λ l. Expand (get_or names o.instance []) o.production.0 l) (part_new o.first o.count names new f c)

at_place : {A : Type 0} (x : A) (k : ℕ) (xs ys : List A) → IsAt x k (xs ++ ys) → IsAt x k xs ⊎ ((m : ℕ) × (k ≡ length xs + m) × IsAt x m ys)
at_place x k [] ys h = inr (k, omega arith, h)
at_place x zero (y ∷ xs) ys h = inl h
at_place x (suc k) (y ∷ xs) ys h = ⊎_elim (λ a. inl a) (λ b. inr (b.0, (let e : k ≡ length xs + b.0 = b.1 in omega arith), b.2)) (at_place x k xs ys h)

at_set : {A : Type 0} (x y : A) (j k : ℕ) (xs : List A) → IsAt x j (set xs k y) → (IsAt x j xs × (j ≡ k → ⊥)) ⊎ ((x ≡ y) × (j ≡ k))
at_set x y j k [] h = absurd h
at_set x y zero zero (z ∷ xs) h = inr (h, refl)
at_set x y zero (suc k) (z ∷ xs) h = inl (h, λ e. absurd (omega arith))
at_set x y (suc j) zero (z ∷ xs) h = inl (h, λ e. absurd (omega arith))
at_set x y (suc j) (suc k) (z ∷ xs) h = ⊎_elim (λ a. inl (a.0, λ e. let d : j ≡ k = omega arith in a.1 d)) (λ b. inr (b.0, ap suc b.1)) (at_set x y j k xs h)

-- what the children of an expansion are
new_child : (x : Inst) (k : ℕ) (names : List (List ℕ)) (qs : List Position) → IsIn x (children k names qs) → (x.production ≡ None) × IsIn x.name names
new_child x k [] qs h = absurd h
new_child x k (n ∷ ns) [] h = absurd h
new_child x k (n ∷ ns) (q ∷ qs) (inl e) = (ap (λ (y : Inst). y.production) e, inl (ap (λ (y : Inst). y.name) e))
new_child x k (n ∷ ns) (q ∷ qs) (inr h) = let r = new_child x k ns qs h in (r.0, inr r.1)

-- the parent of the children of an expansion
child_parent : (x : Inst) (j k : ℕ) (names : List (List ℕ)) (qs : List Position) → IsAt x j (children k names qs) → (x.parent ≡ Some k) × (j < length names)
child_parent x j k [] qs h = absurd h
child_parent x j k (n ∷ ns) [] h = absurd h
child_parent x zero k (n ∷ ns) (q ∷ qs) h = (ap (λ (y : Inst). y.parent) h, omega arith)
child_parent x (suc j) k (n ∷ ns) (q ∷ qs) h = let r = child_parent x j k ns qs h in let l : j < length ns = r.1 in (r.0, omega arith)

-- what holds of a value that may be there follows from what held
lifted : {A : Type 0} (o : Option A) (P R : Type 0) (Q S : A → Type 0) → (P → R) → ((x : A) → Q x → S x) → MatchOption o P Q → MatchOption o R S
lifted None P R Q S f h m = f m
lifted (Some x) P R Q S f h m = h x m

abbrev some_expanded : Expanded → Option Expanded
some_expanded x = Some x

module _ (g : Grammar) (t : Table) (run : IsTableOf g t) (kept : (q : Opened) → IsIn q t.order → IsOpenedIn (length t.instances) q) (k : ℕ) (p : ProdNo) (new : List (List ℕ)) (body : List Position) (i : List ℕ) (there : k < length t.instances) (named_so : i ≡ (get_or t.instances k no_instance).name) (same_body : map module_of body ≡ body_of g p.0) (next : IsAccepted g t.most (events_of t ++ Expand i p.0 new ∷ [])) where
  abbrev names : List (List ℕ)
  names = names_in t.instances

  abbrev o : Opened
  o = record { instance = k; production = p; first = length t.instances; count = length new }

  abbrev after : Table
  after = opened_table t k p new body

  can : CanExpand g g.start (events_of t) i p.0 new
  can = (AllExtend-append g g.start [] (events_of t) (Expand i p.0 new ∷ []) next.0).1.0

  each : length new ≡ length body
  each = can.one_each ∙ (ap length (sym same_body) ∙ length-map body module_of)

  count : length names ≡ length t.instances
  count = length-map t.instances (λ (x : Inst). x.name)

  i_at : IsAt i k names
  i_at = subst (λ z. IsAt z k (names_in t.instances)) (sym named_so) (at_map (λ (x : Inst). x.name) (get_or t.instances k no_instance) k t.instances (is_at k t.instances no_instance there))

  all_names : names_in after.instances ≡ names ++ new
  all_names = names-with_children t.instances (o) new body each

  all_events : events_of after ≡ events_of t ++ Expand i p.0 new ∷ []
  all_events =
      let c = count in
      ap (λ l. events_by l (t.order ++ o ∷ [])) all_names
      ∙ (events_more names new t.order (o) (λ q h. subst (λ n. IsOpenedIn n q) (sym c) (kept q h)) (omega arith) (sym c) refl
      ∙ ap (λ n. events_of t ++ Expand n p.0 new ∷ []) (at_is i k names [] i_at))

  all_count : length after.instances ≡ length t.instances + length new
  all_count = length-with_children t.instances (o) new body each

  all_instances : map instance_of after.instances ≡ map instance_of t.instances ++ named new (body_of g p.0)
  all_instances = instances-with_children t.instances (o) new body ∙ ap (λ l. map instance_of t.instances ++ named new l) same_body

  made_names : names_of (made g g.start (events_of t)) ≡ names
  made_names = ap names_of (sym run.made) ∙ map-map (λ (z : Instance). z.name) instance_of t.instances

  differ : AllDiffer names
  differ = subst AllDiffer made_names (run_differs g g.start (events_of t) run.accepted.0)

  new_made : (n : List ℕ) → IsIn n new → IsIn n names → ⊥
  new_made n h l = can.new n h (subst (IsIn n) (sym made_names) l)

  -- the sorts of instances afterwards
  sorts : (j : ℕ) (x : Inst) → IsAt x j after.instances → (IsAt x j t.instances × (j ≡ k → ⊥)) ⊎ ((x ≡ expanded_by_no p (length t.instances) (get_or t.instances k no_instance)) ⊎ ((x.production ≡ None) × IsIn x.name new))
  sorts j x h =
      ⊎_elim
      (λ a. ⊎_elim (λ b. inl b) (λ b. inr (inl b.0)) (at_set x (expanded_by_no p (length t.instances) (get_or t.instances k no_instance)) j k t.instances a))
      (λ a. inr (inr (new_child x k new body (at_in x a.0 (children k new body) a.2))))
      (at_place x j (set t.instances k (expanded_by_no p (length t.instances) (get_or t.instances k no_instance))) (children k new body) h)

  expanded_after : (j : ℕ) (x : Inst) → IsAt x j after.instances → expanded_by (events_of t ++ Expand i p.0 new ∷ []) x.name ≡ expansion_at g (names ++ new) x
  expanded_after j x h = ⊎_elim old (λ a. ⊎_elim this child a) (sorts j x h)
    where
      far : (y : Inst) (q : Option ProdNo) → y.production ≡ q → ((r : ProdNo) → q ≡ Some r → y.first_child + length (body_of g r.0) ≤ length names) →
          option_map {U = Expanded} (λ (r : ProdNo). record { production = r.0; names = take (length (body_of g r.0)) (drop y.first_child names) }) q ≡ option_map {U = Expanded} (λ (r : ProdNo). record { production = r.0; names = take (length (body_of g r.0)) (drop y.first_child (names ++ new)) }) q
      far y None e f = refl
      far y (Some r) e f = ap (λ l. Some (record { production = r.0; names = l })) (sym (part_kept y.first_child (length (body_of g r.0)) names new (f r refl)))

      old : IsAt x j t.instances × (j ≡ k → ⊥) → expanded_by (events_of t ++ Expand i p.0 new ∷ []) x.name ≡ expansion_at g (names ++ new) x
      old a =
          expansion_other (events_of t) i p.0 new x.name (λ e. a.1 (differ_at x.name j k names differ (at_map (λ (y : Inst). y.name) x j t.instances a.0) (subst (λ z. IsAt z k names) e i_at)))
          ∙ (run.expanded j x a.0 ∙ far x x.production refl (λ r e. subst (λ n. x.first_child + length (body_of g r.0) ≤ n) (sym count) (run.children j x r a.0 e)))

      this : x ≡ expanded_by_no p (length t.instances) (get_or t.instances k no_instance) → expanded_by (events_of t ++ Expand i p.0 new ∷ []) x.name ≡ expansion_at g (names ++ new) x
      this e =
          let n : x.name ≡ i = ap (λ (y : Inst). y.name) e ∙ sym named_so in
          ap (expanded_by (events_of t ++ Expand i p.0 new ∷ [])) n
          ∙ (expansion_later (events_of t) (Expand i p.0 new ∷ []) i can.open_end
          ∙ (ap (λ b. cond {A = Option Expanded} b (Some (record { production = p.0; names = new })) None) (bytes_same i i refl)
          ∙ (ap (λ l. some_expanded (record { production = p.0; names = l })) (sym (part_new (length t.instances) (length (body_of g p.0)) names new (sym count) (sym can.one_each)))
          ∙ ap (expansion_at g (names ++ new)) (sym e))))

      child : (x.production ≡ None) × IsIn x.name new → expanded_by (events_of t ++ Expand i p.0 new ∷ []) x.name ≡ expansion_at g (names ++ new) x
      child a =
          expansion_other (events_of t) i p.0 new x.name (λ e. new_made x.name a.1 (subst (λ z. IsIn z names) e (at_in i k names i_at)))
          ∙ (none (expanded_by (events_of t) x.name) refl
          ∙ ap (option_map {U = Expanded} (λ (r : ProdNo). record { production = r.0; names = take (length (body_of g r.0)) (drop x.first_child (names ++ new)) })) (sym a.0))
        where
          none : (q : Option Expanded) → expanded_by (events_of t) x.name ≡ q → expanded_by (events_of t) x.name ≡ None
          none None e = e
          none (Some y) e = absurd (can.new x.name a.1 ((run_state g (record { expanded = []; shown = [] }) g.start (events_of t) run.accepted.0).expanded_made x.name y e))

  children_after : (j : ℕ) (x : Inst) (r : ProdNo) → IsAt x j after.instances → x.production ≡ Some r → x.first_child + length (body_of g r.0) ≤ length after.instances
  children_after j x r h e =
      subst (λ n. x.first_child + length (body_of g r.0) ≤ n) (sym all_count)
      (⊎_elim
      (λ a. let l : x.first_child + length (body_of g r.0) ≤ length t.instances = run.children j x r a.0 e in omega arith)
      (λ a. ⊎_elim this (λ b. absurd (none b.0 e)) a)
      (sorts j x h))
    where
      none : x.production ≡ None → x.production ≡ Some r → ⊥
      none a b = let d : None ≡ Some r = sym a ∙ b in cc

      this : x ≡ expanded_by_no p (length t.instances) (get_or t.instances k no_instance) → x.first_child + length (body_of g r.0) ≤ length t.instances + length new
      this d =
          let q : Some p ≡ Some r = ap (λ (y : Inst). y.production) (sym d) ∙ e in
          let s : p ≡ r = cc in
          let f : x.first_child ≡ length t.instances = ap (λ (y : Inst). y.first_child) d in
          let l : length new ≡ length (body_of g r.0) = can.one_each ∙ ap (λ (z : ProdNo). length (body_of g z.0)) s in
          omega arith

  ordered_after : (q : Opened) → IsIn q after.order → take q.count (drop q.first (map instance_of after.instances)) ≡ named (given_names (names ++ new) q) (body_of g q.production.0)
  ordered_after q h = ap (λ l. take q.count (drop q.first l)) all_instances ∙ ⊎_elim old (λ a. ⊎_elim this (λ z. absurd z) a) (in_append_cases q t.order (o ∷ []) h)
    where
      old : IsIn q t.order → take q.count (drop q.first (map instance_of t.instances ++ named new (body_of g p.0))) ≡ named (given_names (names ++ new) q) (body_of g q.production.0)
      old a =
          let l : q.first + q.count ≤ length t.instances = (kept q a).2 in
          let c = count in
          let m : q.first + q.count ≤ length names = omega arith in
          let n : q.first + q.count ≤ length (map instance_of t.instances) = omega (arith, length-map t.instances instance_of) in
          part_kept q.first q.count (map instance_of t.instances) (named new (body_of g p.0)) n
          ∙ (run.ordered q a
          ∙ ap (λ l. named l (body_of g q.production.0)) (sym (part_kept q.first q.count names new m)))

      this : q ≡ o → take q.count (drop q.first (map instance_of t.instances ++ named new (body_of g p.0))) ≡ named (given_names (names ++ new) q) (body_of g q.production.0)
      this e =
          subst (λ z. take z.count (drop z.first (map instance_of t.instances ++ named new (body_of g p.0))) ≡ named (given_names (names ++ new) z) (body_of g z.production.0)) (sym e)
          (part_new (length t.instances) (length new) (map instance_of t.instances) (named new (body_of g p.0)) (sym (length-map t.instances instance_of)) (sym (length-named new (body_of g p.0) can.one_each))
          ∙ ap (λ l. named l (body_of g p.0)) (sym (part_new (length t.instances) (length new) names new (sym count) refl)))

  place_left : k < length (set t.instances k (expanded_by_no p (length t.instances) (get_or t.instances k no_instance)))
  place_left = let h = there in omega (arith, length-set t.instances k (expanded_by_no p (length t.instances) (get_or t.instances k no_instance)))

  -- the instance that was expanded, afterwards
  changed : get_or after.instances k no_instance ≡ expanded_by_no p (length t.instances) (get_or t.instances k no_instance)
  changed =
      get_or_append_left (set t.instances k (expanded_by_no p (length t.instances) (get_or t.instances k no_instance))) (children k new body) no_instance k place_left
      ∙ get_or-set_same t.instances k (expanded_by_no p (length t.instances) (get_or t.instances k no_instance)) no_instance there

  -- another instance is as it was
  kept_at : (q : ℕ) → q < length t.instances → (q ≡ k → ⊥) → get_or after.instances q no_instance ≡ get_or t.instances q no_instance
  kept_at q h d =
      get_or_append_left (set t.instances k (expanded_by_no p (length t.instances) (get_or t.instances k no_instance))) (children k new body) no_instance q (omega (arith, length-set t.instances k (expanded_by_no p (length t.instances) (get_or t.instances k no_instance))))
      ∙ get_or-set_other t.instances k q (expanded_by_no p (length t.instances) (get_or t.instances k no_instance)) no_instance d

  -- the instance was not expanded before
  waiting : (r : ProdNo) → (get_or t.instances k no_instance).production ≡ Some r → ⊥
  waiting r e =
      let a : expanded_by (events_of t) i ≡ expansion_at g (names_in t.instances) (get_or t.instances k no_instance) = ap (expanded_by (events_of t)) named_so ∙ run.expanded k (get_or t.instances k no_instance) (is_at k t.instances no_instance there) in
      let b : expansion_at g (names_in t.instances) (get_or t.instances k no_instance) ≡ some_expanded (record { production = r.0; names = take (length (body_of g r.0)) (drop (get_or t.instances k no_instance).first_child (names_in t.instances)) }) =
      ap (option_map {U = Expanded} (λ (r : ProdNo). record { production = r.0; names = take (length (body_of g r.0)) (drop (get_or t.instances k no_instance).first_child (names_in t.instances)) })) e in
      none (sym can.open_end ∙ (a ∙ b))
    where
      none : {x : Expanded} → None ≡ some_expanded x → ⊥
      none h = cc

  -- a parent from before is one afterwards
  parent_kept : (q j : ℕ) → j < length t.instances → IsParentAt g t.instances q j → IsParentAt g after.instances q j
  parent_kept q j l h =
      let b : q < j = h.before in
      let e = kept_at q (omega arith) (λ d. waiting h.production (subst (λ z. (get_or t.instances z no_instance).production ≡ Some h.production) d h.expanded)) in
      record {
        before = h.before;
        production = h.production;
        expanded = ap (λ (y : Inst). y.production) e ∙ h.expanded;
        first = subst (λ (y : Inst). y.first_child ≤ j) (sym e) h.first;
        last = subst (λ (y : Inst). j < y.first_child + length (body_of g h.production.0)) (sym e) h.last;
      }

  -- the parent of a child
  parent_new : (m : ℕ) → m < length new → IsParentAt g after.instances k (length t.instances + m)
  parent_new m l =
      let h = there in
      let c : length new ≡ length (body_of g p.0) = can.one_each in
      record {
        before = omega arith;
        production = p;
        expanded = ap (λ (y : Inst). y.production) changed;
        first = subst (λ (y : Inst). y.first_child ≤ length t.instances + m) (sym changed) (omega arith);
        last = subst (λ (y : Inst). length t.instances + m < y.first_child + length (body_of g p.0)) (sym changed) (omega arith);
      }

  parents_after : (j : ℕ) (x : Inst) → IsAt x j after.instances → MatchOption x.parent (j ≡ 0) (λ q. IsParentAt g after.instances q j)
  parents_after j x h =
      ⊎_elim
      (λ a. ⊎_elim (λ b. old b.0) (λ b. this b.0 b.1) (at_set x (expanded_by_no p (length t.instances) (get_or t.instances k no_instance)) j k t.instances a))
      (λ a. child a.0 (a.1 ∙ ap (λ n. n + a.0) (length-set t.instances k (expanded_by_no p (length t.instances) (get_or t.instances k no_instance)))) (child_parent x a.0 k new body a.2))
      (at_place x j (set t.instances k (expanded_by_no p (length t.instances) (get_or t.instances k no_instance))) (children k new body) h)
    where
      from_before : (y : Inst) → IsAt y j t.instances → MatchOption y.parent (j ≡ 0) (λ q. IsParentAt g after.instances q j)
      from_before y a =
          lifted y.parent (j ≡ 0) (j ≡ 0) (λ q. IsParentAt g t.instances q j) (λ q. IsParentAt g after.instances q j) (λ e. e) (λ q b. parent_kept q j (at_below y j t.instances a) b) (run.parents j y a)

      old : IsAt x j t.instances → MatchOption x.parent (j ≡ 0) (λ q. IsParentAt g after.instances q j)
      old a = from_before x a

      this : x ≡ expanded_by_no p (length t.instances) (get_or t.instances k no_instance) → j ≡ k → MatchOption x.parent (j ≡ 0) (λ q. IsParentAt g after.instances q j)
      this e d =
          subst (λ (o : Option ℕ). MatchOption o (j ≡ 0) (λ q. IsParentAt g after.instances q j)) (sym (ap (λ (y : Inst). y.parent) e))
          (from_before (get_or t.instances k no_instance) (subst (λ z. IsAt (get_or t.instances k no_instance) z t.instances) (sym d) (is_at k t.instances no_instance there)))

      child : (m : ℕ) → j ≡ length t.instances + m → (x.parent ≡ Some k) × (m < length new) → MatchOption x.parent (j ≡ 0) (λ q. IsParentAt g after.instances q j)
      child m e a =
          subst (λ (o : Option ℕ). MatchOption o (j ≡ 0) (λ q. IsParentAt g after.instances q j)) (sym a.0)
          (subst (IsParentAt g after.instances k) (sym e) (parent_new m a.1))

  pub run_expanded : (events_of after ≡ events_of t ++ Expand i p.0 new ∷ []) × IsTableOf g after
  run_expanded = (
    all_events,
    record {
      accepted = subst (IsAccepted g t.most) (sym all_events) next;
      made = all_instances ∙ (ap (λ l. l ++ named new (body_of g p.0)) run.made ∙ (sym (made_more g g.start (events_of t) (Expand i p.0 new)) ∙ ap (made g g.start) (sym all_events)));
      expanded = λ j x h. ap (λ l. expanded_by l x.name) all_events ∙ (expanded_after j x h ∙ ap (λ l. expansion_at g l x) (sym all_names));
      children = children_after;
      ordered = λ q h. ordered_after q h ∙ ap (λ l. named (given_names l q) (body_of g q.production.0)) (sym all_names);
      parents = parents_after;
    },
  )

-- the start
pub run_started : (g : Grammar) (most : ℕ) (m : ModNo) (name : List ℕ) → m.0 ≡ g.start → IsAccepted g most (Start name ∷ []) → IsTableOf g (started_table most m name)
run_started g most m name e acc = record {
  accepted = acc;
  made = ap (λ n. one (record { name = name; module_no = n })) e;
  expanded = λ j x h. at_root j x h;
  children = λ j x r h q. absurd (none j x r h q);
  ordered = λ q h. absurd h;
  parents = λ j x h. at_first j x h;
}
  where
    at_first : (j : ℕ) (x : Inst) → IsAt x j (root_instance m name ∷ []) → MatchOption x.parent (j ≡ 0) (λ q. IsParentAt g (root_instance m name ∷ []) q j)
    at_first zero x h = subst (λ (o : Option ℕ). MatchOption o (◌≡◌ {A = ℕ} 0 0) (λ q. IsParentAt g (root_instance m name ∷ []) q 0)) (sym (ap (λ (y : Inst). y.parent) h)) refl
    at_first (suc j) x h = absurd h

    one : Instance → List Instance
    one i = i ∷ []

    at_root : (j : ℕ) (x : Inst) → IsAt x j (root_instance m name ∷ []) → None ≡ expansion_at g (name ∷ []) x
    at_root zero x h = ap (option_map {U = Expanded} (λ (r : ProdNo). record { production = r.0; names = take (length (body_of g r.0)) (drop x.first_child (name ∷ [])) })) (sym (ap (λ (y : Inst). y.production) h))
    at_root (suc j) x h = absurd h

    none : (j : ℕ) (x : Inst) (r : ProdNo) → IsAt x j (root_instance m name ∷ []) → x.production ≡ Some r → ⊥
    none zero x r h q = let d : None ≡ Some r = sym (ap (λ (y : Inst). y.production) h) ∙ q in cc
    none (suc j) x r h q = h

pub kept_of : (t : Table) (most : ℕ) (taken : List (List ℕ)) (xs : List Inst) (order : List Opened) → IsTableKept most taken xs order → ◌≡◌ {A = Table} (record { most = most; instances = xs; order = order }) t → (q : Opened) → IsIn q t.order → IsOpenedIn (length t.instances) q
kept_of t most taken xs order k e = subst (λ (z : Table). (q : Opened) → IsIn q z.order → IsOpenedIn (length z.instances) q) e k.opened

pub same_modules : (g : Grammar) (p : ℕ) (r : Production) (body : List Position) → map position_of body ≡ r.positions → r ≡ production_at g p → map (λ (q : Position). q.module.0) body ≡ body_of g p
same_modules g p r body b e =
    sym (map-map (λ (z : PositionSeen). z.module_no) position_of body) ∙ (ap (map (λ (z : PositionSeen). z.module_no)) b ∙ ap (λ (z : Production). map (λ (y : PositionSeen). y.module_no) z.positions) e)

pub run_first : (g : Grammar) (t : Table) (m : ModNo) (name : List ℕ) → IsTableOf g t → m.0 ≡ g.start → fault_of g t.most (events_of t) (Start name) ≡ None → IsTableOf g (started_table t.most m name)
run_first g t m name run e h =
    let next = (taking_law g t.most (events_of t) (Start name) run.accepted).0 h in
    let x = (AllExtend-append g g.start [] (events_of t) (Start name ∷ []) next.0).1.0 in
    run_started g t.most m name e (subst (λ l. IsAccepted g t.most (l ++ Start name ∷ [])) x.0 next)

-- the run before its start
pub run_none : (g : Grammar) (most : ℕ) → IsTableOf g (record { most = most; instances = []; order = [] })
run_none g most = record {
  accepted = (tt, (let z : 0 ≤ most = omega arith in z), λ n h. absurd h);
  made = refl;
  expanded = λ k x h. absurd h;
  children = λ k x p h e. absurd h;
  ordered = λ o h. absurd h;
  parents = λ k x h. absurd h;
}
