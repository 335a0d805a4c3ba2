-- Once the root is expanded, each further instance belongs to the family of exactly one child.
use Rattle.std.proofs.Common.{◌≡◌, ℕ, ◌<◌, ◌⊎◌, Bool, true, false, cond, List, [], ◌∷◌, ◌++◌, length, get_or, bytes_eq, Option, Some, None, refl, sym, ap, ◌∙◌, subst, inl, inr, ⊎_elim, append_assoc, append-nil}
use Rattle.wf_model.specs.Lists.{IsIn, IsAt, some}
use Rattle.wf_model.specs.Grammar.{Grammar, head_of, body_of}
use Rattle.wf_model.specs.declared.event.Event.{Event}
use Rattle.wf_model.specs.declared.event.Event.TheVariants.{Start, Expand}
use Rattle.wf_model.specs.Run.{Instance, Expanded, named, made, names_of, expanded_by, CanExpand, AllExtend, IsRun, with_children, family}
use Rattle.wf_model.proofs.Lists.{in_append_left, in_append_right, in_append_cases, bytes_same, among_gives, among_from, at_below, at_is, is_at, at_in, differ_at}
use Rattle.wf_model.proofs.Runs.{named_names, expansion_kept, made_cases, name_kept, name_new, at_named}

pub in_with_children : (f : List (List ℕ)) (i : List ℕ) (new : List (List ℕ)) (n : List ℕ) → IsIn n f → IsIn n (with_children f i new)
in_with_children f i new n h = go (some (bytes_eq i) f)
  where
    go : (b : Bool) → IsIn n (cond b (f ++ new) f)
    go true = in_append_left n f new h
    go false = h

pub new_with_children : (f : List (List ℕ)) (i : List ℕ) (new : List (List ℕ)) (n : List ℕ) → IsIn i f → IsIn n new → IsIn n (with_children f i new)
new_with_children f i new n h k = subst (λ b. IsIn n (cond b (f ++ new) f)) (sym (among_from i f h)) (in_append_right n f new k)

pub with_children_cases : (f : List (List ℕ)) (i : List ℕ) (new : List (List ℕ)) (n : List ℕ) → IsIn n (with_children f i new) → IsIn n f ⊎ (IsIn i f × IsIn n new)
with_children_cases f i new n h = go (some (bytes_eq i) f) refl h
  where
    go : (b : Bool) → some (bytes_eq i) f ≡ b → IsIn n (cond b (f ++ new) f) → IsIn n f ⊎ (IsIn i f × IsIn n new)
    go true e k = ⊎_elim (λ a. inl a) (λ a. inr (among_gives i f e, a)) (in_append_cases n f new k)
    go false e k = inl k

pub in_family : (f : List (List ℕ)) (events : List Event) (n : List ℕ) → IsIn n f → IsIn n (family f events)
in_family f [] n h = h
in_family f (Start r ∷ events) n h = in_family f events n h
in_family f (Expand i p new ∷ events) n h = in_family (with_children f i new) events n (in_with_children f i new n h)

-- After the events b the root r of module m stands expanded, and the others belong to n families
pub record IsParted (g : Grammar) (m : ℕ) (r : List ℕ) (x : Expanded) (n : ℕ) (b : List Event) (f : ℕ → List (List ℕ)) : Type 0 where
  pub root_made : IsIn r (names_of (made g m b))
  pub root_open : expanded_by b r ≡ Some x
  pub parted : (j : Instance) → IsIn j (made g m b) → (j ≡ record { name = r; module_no = m }) ⊎ ((k : ℕ) × (k < n) × IsIn j.name (f k))
  pub apart : (j k : ℕ) (c : List ℕ) → j < n → k < n → IsIn c (f j) → IsIn c (f k) → j ≡ k
  pub not_root : (k : ℕ) → k < n → IsIn r (f k) → ⊥
  pub inside : (k : ℕ) (c : List ℕ) → k < n → IsIn c (f k) → IsIn c (names_of (made g m b))

parted_step : (g : Grammar) (m : ℕ) (r : List ℕ) (x : Expanded) (n : ℕ) (b : List Event) (f : ℕ → List (List ℕ)) (i : List ℕ) (p : ℕ) (new : List (List ℕ)) → IsParted g m r x n b f → CanExpand g m b i p new → IsParted g m r x n (b ++ Expand i p new ∷ []) (λ k. with_children (f k) i new)
parted_step g m r x n b f i p new pt can = record {
  root_made = name_kept g m b (Expand i p new) r pt.root_made;
  root_open = expansion_kept b (Expand i p new ∷ []) r x pt.root_open;
  parted = λ j h. ⊎_elim
      (λ a. ⊎_elim (λ d. inl d) (λ d. inr (d.0, d.1, in_with_children (f d.0) i new j.name d.2)) (pt.parted j a))
      (λ a. owner j a (pt.parted _ can.stands))
      (made_cases g m b (Expand i p new) j h);
  apart = λ j k c hj hk cj ck. ⊎_elim
      (λ a. ⊎_elim (λ d. pt.apart j k c hj hk a d) (λ d. absurd (can.new c d.1 (pt.inside j c hj a))) (with_children_cases (f k) i new c ck))
      (λ a. ⊎_elim (λ d. absurd (can.new c a.1 (pt.inside k c hk d))) (λ d. pt.apart j k i hj hk a.0 d.0) (with_children_cases (f k) i new c ck))
      (with_children_cases (f j) i new c cj);
  not_root = λ k hk h. ⊎_elim (λ a. pt.not_root k hk a) (λ a. can.new r a.1 pt.root_made) (with_children_cases (f k) i new r h);
  inside = λ k c hk h. ⊎_elim (λ a. name_kept g m b (Expand i p new) c (pt.inside k c hk a)) (λ a. name_new g m b i p new c can.one_each a.1) (with_children_cases (f k) i new c h);
}
  where
    not_open : i ≡ r → ⊥
    not_open e = let h : None ≡ Some x = sym can.open_end ∙ (ap (expanded_by b) e ∙ pt.root_open) in absurd (cc)

    owner : (j : Instance) → IsIn j (named new (body_of g p)) → (◌≡◌ {A = Instance} (record { name = i; module_no = head_of g p }) (record { name = r; module_no = m })) ⊎ ((k : ℕ) × (k < n) × IsIn i (f k)) → (j ≡ record { name = r; module_no = m }) ⊎ ((k : ℕ) × (k < n) × IsIn j.name (with_children (f k) i new))
    owner j a (inl e) = absurd (not_open (ap (λ (z : Instance). z.name) e))
    owner j a (inr d) = inr (d.0, d.1, new_with_children (f d.0) i new j.name d.2 (named_names j new (body_of g p) a))

parted_all : (g : Grammar) (m : ℕ) (r : List ℕ) (x : Expanded) (n : ℕ) (rest b : List Event) (f : ℕ → List (List ℕ)) → IsParted g m r x n b f → AllExtend g m b rest → IsParted g m r x n (b ++ rest) (λ k. family (f k) rest)
parted_all g m r x n [] b f pt h = subst (λ l. IsParted g m r x n l f) (sym (append-nil b)) pt
parted_all g m r x n (Start s ∷ rest) b f pt h = absurd (subst (λ l. IsIn r (names_of (made g m l))) h.0.0 pt.root_made)
parted_all g m r x n (Expand i p new ∷ rest) b f pt h =
    subst (λ l. IsParted g m r x n l (λ k. family (with_children (f k) i new) rest)) (append_assoc b (Expand i p new ∷ []) rest)
    (parted_all g m r x n rest (b ++ Expand i p new ∷ []) (λ k. with_children (f k) i new) (parted_step g m r x n b f i p new pt h.0) h.1)

-- the k-th child's name
abbrev pub child : List (List ℕ) → ℕ → List ℕ
child names k = get_or names k []

-- a run whose root r is expanded by p with these names, and goes on
abbrev pub opened_run : List ℕ → ℕ → List (List ℕ) → List Event → List Event
opened_run r p names rest = Start r ∷ Expand r p names ∷ rest

pub root_not_child : (g : Grammar) (m : ℕ) (r : List ℕ) (p : ℕ) (names : List (List ℕ)) (rest : List Event) → IsRun g m (opened_run r p names rest) → IsIn r names → ⊥
root_not_child g m r p names rest run h = run.1.0.new r h (inl refl)

parted_start : (g : Grammar) (m : ℕ) (r : List ℕ) (p : ℕ) (names : List (List ℕ)) (rest : List Event) → IsRun g m (opened_run r p names rest) → IsParted g m r (record { production = p; names = names }) (length names) (Start r ∷ Expand r p names ∷ []) (λ k. child names k ∷ [])
parted_start g m r p names rest run = record {
  root_made = inl refl;
  root_open = ap (λ b. cond {A = Option Expanded} b (Some (record { production = p; names = names })) None) (bytes_same r r refl);
  parted = λ j h. ⊎_elim (λ e. inl e)
      (λ a. let q = at_named j names (body_of g p) (⊎_elim (λ z. z) (λ z. absurd z) (in_append_cases j (named names (body_of g p)) [] a)) in
      inr (q.0, at_below j.name q.0 names q.1, inl (sym (at_is j.name q.0 names [] q.1)))) h;
  apart = λ j k c hj hk cj ck. differ_at c j k names run.1.0.differ (named_by j c hj cj) (named_by k c hk ck);
  not_root = λ k hk h. root_not_child g m r p names rest run (at_in r k names (named_by k r hk h));
  inside = λ k c hk h. name_new g m (Start r ∷ []) r p names c run.1.0.one_each (at_in c k names (named_by k c hk h));
}
  where
    named_by : (k : ℕ) (c : List ℕ) → k < length names → IsIn c (child names k ∷ []) → IsAt c k names
    named_by k c hk (inl e) = subst (λ z. IsAt z k names) (sym e) (is_at k names [] hk)
    named_by k c hk (inr e) = absurd e

-- the families of the children of the root
pub parts : (g : Grammar) (m : ℕ) (r : List ℕ) (p : ℕ) (names : List (List ℕ)) (rest : List Event) → IsRun g m (opened_run r p names rest) → IsParted g m r (record { production = p; names = names }) (length names) (opened_run r p names rest) (λ k. family (child names k ∷ []) rest)
parts g m r p names rest run = parted_all g m r (record { production = p; names = names }) (length names) rest (Start r ∷ Expand r p names ∷ []) (λ k. child names k ∷ []) (parted_start g m r p names rest run) run.1.1
