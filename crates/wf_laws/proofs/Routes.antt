-- Addresses are unique, and two routes that agree have a run.
use Rattle.wf_laws.specs.Graft.{place_module}
use Rattle.std.proofs.Common.{◌≡◌, ℕ, suc, ◌<◌, ◌⊎◌, Bool, true, false, cond, List, [], ◌∷◌, ◌++◌, length, get_or, bytes_eq, Option, Some, None, eqb, eq-eqb, refl, sym, ap, ◌∙◌, subst, inl, inr, ⊎_elim, arith, true≢false, append_assoc, append-nil}
use Rattle.std.proofs.lemmas.List.{append_cancel_left}
use Rattle.std.proofs.lemmas.Bool.{cases_eq}
use Rattle.wf_model.specs.Lists.{IsIn, numbers_from}
use Rattle.wf_model.specs.Grammar.{Grammar, Assignment, head_of, body_of}
use Rattle.wf_model.specs.WellFormed.{IsWellFormed}
use Rattle.wf_model.specs.View.{View, expands}
use Rattle.wf_model.specs.declared.event.Event.{Event}
use Rattle.wf_model.specs.declared.event.Event.TheVariants.{Start, Expand}
use Rattle.wf_model.specs.Run.{Instance, Expanded, named, made, made_by, names_of, expanded_by, IsName, CanExpand, AllExtend, IsRun, root_of}
use Rattle.wf_model.specs.Links.{input}
use Rattle.wf_model.specs.Reach.{Step, target_of, IsAlong}
use Rattle.wf_model.specs.Routes.{IsAddress, IsRoute, Agree, AddressLaw, RoutesLaw}
use Rattle.wf_model.proofs.Lists.{in_append_left, in_append_right, some_from, same_bytes, bytes_same, at_in, is_at}
use Rattle.wf_model.proofs.Runs.{named_at, expansion_kept, expansion_later, expansion_other, name_in, made_new, run_state}
use Rattle.wf_laws.proofs.Parts.{child, opened_run}
use Rattle.wf_model.proofs.Level.{opening, numbers_in}
use Rattle.wf_laws.proofs.Root.{kid_run, root_apart, child_own, along_own, kid_law, level}
use Rattle.wf_laws.proofs.Growth.{fresh, length-fresh, fresh_long, fresh_differ, fresh_good, longest, below_longest, extended}
use Rattle.wf_laws.proofs.Reach.{first_step, step_to}

-- the view that expands every module
abbrev all_view : Grammar → View
all_view g = record { expanded = numbers_from 0 (length g.modules); shown = [] }

expands_all : (g : Grammar) (m : ℕ) → m < length g.modules → expands (all_view g) m ≡ true
expands_all g m h = some_from (λ k. eqb k m) m (numbers_from 0 (length g.modules)) (numbers_in m 0 (length g.modules) (omega arith) (omega arith)) (eq-eqb m m refl)

no_pairs : Assignment
no_pairs m i o = false

-- an address is one of open instances where everything is expanded
along_all : (g : Grammar) → IsWellFormed g → (m : ℕ) (events : List Event) → IsRun g m events → (a : List Step) (n x : List ℕ) → IsAddress events n a x → IsAlong g (all_view g) events n a x
along_all g wf m events run [] n x h = h
along_all g wf m events run (s ∷ a) n x h =
    let o = opening g m [] events n (record { production = s.production; names = h.0 }) run h.1 in
    (h.0, h.1, h.2, expands_all g (head_of g s.production) (wf.heads s.production o.in_range), along_all g wf m events run a (get_or h.0 s.position []) x h.3)

-- a run whose root is expanded
record IsOpened (g : Grammar) (m : ℕ) (e : List Event) : Type 0 where
  r : List ℕ
  p : ℕ
  names : List (List ℕ)
  rest : List Event
  is : e ≡ opened_run r p names rest
  head : head_of g p ≡ m

opened_by : (g : Grammar) (m : ℕ) (e : List Event) (y : Expanded) → IsRun g m e → expanded_by e (root_of e) ≡ Some y → IsOpened g m e
opened_by g m [] y x h = absurd (cc)
opened_by g m (Expand i p names ∷ e) y x h = absurd x.0.stands
opened_by g m (Start r ∷ []) y x h = absurd (cc)
opened_by g m (Start r ∷ Start s ∷ e) y x h = let q = x.1.0.0 in absurd (cc)
opened_by g m (Start r ∷ Expand i p names ∷ e) y x h =
    let stands : ◌≡◌ {A = Instance} (record { name = i; module_no = head_of g p }) (record { name = r; module_no = m }) = ⊎_elim (λ a. a) (λ a. absurd a) x.1.0.stands in
    record { r = r; p = p; names = names; rest = e; is = ap (λ (z : Instance). Start r ∷ Expand z.name p names ∷ e) stands; head = ap (λ (z : Instance). z.module_no) stands }

module _ (g : Grammar) (u : View) (wf : IsWellFormed g) where
  -- the root is at no address but its own
  not_below : (m : ℕ) (e : List Event) → IsRun g m e → (s : Step) (a : List Step) → IsAlong g u e (root_of e) (s ∷ a) (root_of e) → ⊥
  not_below m e run s a al =
      let o = opened_by g m e _ run al.1 in
      at_opened o.r o.p o.names o.rest (subst (λ z. IsRun g m z) o.is run) o.head (subst (λ z. IsAlong g u z (root_of z) (s ∷ a) (root_of z)) o.is al)
    where
      at_opened : (r : List ℕ) (p : ℕ) (names : List (List ℕ)) (rest : List Event) → IsRun g m (opened_run r p names rest) → head_of g p ≡ m → IsAlong g u (opened_run r p names rest) r (s ∷ a) r → ⊥
      at_opened r p names rest run hd al =
          let f = first_step g u r p names rest s a r al in
          let run' : IsRun g (head_of g p) (opened_run r p names rest) = subst (λ z. IsRun g z (opened_run r p names rest)) (sym hd) run in
          let ex : expands u (head_of g p) ≡ true = ap (λ (z : Step). expands u (head_of g z.production)) f.same ∙ al.3 in
          let own = along_own g u no_pairs r p names rest wf run' ex s.position f.within a (child names s.position) r (child_own g u no_pairs r p names rest wf run' ex s.position) f.on in
          root_apart g u no_pairs r p names rest wf run' ex s.position f.within own.1

  along_unique : (a b : List Step) (m : ℕ) (e : List Event) → IsRun g m e → (x : List ℕ) → IsAlong g u e (root_of e) a x → IsAlong g u e (root_of e) b x → a ≡ b
  along_unique [] [] m e run x al bl = refl
  along_unique [] (t ∷ b) m e run x al bl = absurd (not_below m e run t b (subst (IsAlong g u e (root_of e) (t ∷ b)) (sym al) bl))
  along_unique (s ∷ a) [] m e run x al bl = absurd (not_below m e run s a (subst (IsAlong g u e (root_of e) (s ∷ a)) (sym bl) al))
  along_unique (s ∷ a) (t ∷ b) m e run x al bl =
      let o = opened_by g m e _ run al.1 in
      at_opened (along_unique a b) o.r o.p o.names o.rest (subst (λ z. IsRun g m z) o.is run) o.head (subst (λ z. IsAlong g u z (root_of z) (s ∷ a) x) o.is al) (subst (λ z. IsAlong g u z (root_of z) (t ∷ b) x) o.is bl)
    where
      at_opened : ((m : ℕ) (e : List Event) → IsRun g m e → (x : List ℕ) → IsAlong g u e (root_of e) a x → IsAlong g u e (root_of e) b x → a ≡ b) →
          (r : List ℕ) (p : ℕ) (names : List (List ℕ)) (rest : List Event) → IsRun g m (opened_run r p names rest) → head_of g p ≡ m → IsAlong g u (opened_run r p names rest) r (s ∷ a) x → IsAlong g u (opened_run r p names rest) r (t ∷ b) x → s ∷ a ≡ t ∷ b
      at_opened ih r p names rest run hd al bl =
          let f = first_step g u r p names rest s a x al in
          let h = first_step g u r p names rest t b x bl in
          let k = s.position in
          let l = t.position in
          let run' : IsRun g (head_of g p) (opened_run r p names rest) = subst (λ z. IsRun g z (opened_run r p names rest)) (sym hd) run in
          let ex : expands u (head_of g p) ≡ true = ap (λ (z : Step). expands u (head_of g z.production)) f.same ∙ al.3 in
          let fo = along_own g u no_pairs r p names rest wf run' ex k f.within a (child names k) x (child_own g u no_pairs r p names rest wf run' ex k) f.on in
          let ho = along_own g u no_pairs r p names rest wf run' ex l h.within b (child names l) x (child_own g u no_pairs r p names rest wf run' ex l) h.on in
          let e : k ≡ l = (level g u no_pairs r p names rest wf run' ex).apart k l (input x 0) (f.within, fo.1) (h.within, ho.1) in
          let rec : a ≡ b = ih (place_module g p k) (kid_run names (opened_run r p names rest) k) (kid_law g u no_pairs r p names rest wf run' ex k f.within).run x fo.0
          (subst (λ n. IsAlong g u (kid_run names (opened_run r p names rest) n) (child names n) b x) (sym e) ho.0) in
          let st : s ≡ t = sym f.same ∙ (ap (step_to p) e ∙ h.same) in
          ap (λ z. z ∷ a) st ∙ ap (λ z. t ∷ z) rec

pub address_law : AddressLaw
address_law g wf m events run a b x al bl =
    along_unique g (all_view g) wf a b m events run x (along_all g wf m events run a (root_of events) x al) (along_all g wf m events run b (root_of events) x bl)

-- the children of an expanded instance are made
kids_made : (g : Grammar) (m : ℕ) (b a : List Event) (n : List ℕ) (x : Expanded) → AllExtend g m b a → expanded_by a n ≡ Some x → (c : Instance) → IsIn c (named x.names (body_of g x.production)) → IsIn c (made g m a)
kids_made g m b [] n x h e c k = absurd (cc)
kids_made g m b (Start r ∷ a) n x h e c k = in_append_right c (made_by g m (Start r)) (made g m a) (kids_made g m (b ++ Start r ∷ []) a n x h.1 e c k)
kids_made g m b (Expand i p new ∷ a) n x h e c k = go (λ q. kids_made g m (b ++ Expand i p new ∷ []) a n x h.1 q c k) (bytes_eq i n) e
  where
    go : (expanded_by a n ≡ Some x → IsIn c (made g m a)) → (t : Bool) → cond t (Some (record { production = p; names = new })) (expanded_by a n) ≡ Some x → IsIn c (named new (body_of g p) ++ made g m a)
    go ih false q = in_append_right c (named new (body_of g p)) (made g m a) (ih q)
    go ih true q =
        let s : ◌≡◌ {A = Expanded} x (record { production = p; names = new }) = cc in
        in_append_left c (named new (body_of g p)) (made g m a) (subst (λ (z : Expanded). IsIn c (named z.names (body_of g z.production))) s k)

-- new names for an instance that is not expanded
pub fresh_for : Grammar → ℕ → List Event → ℕ → List (List ℕ)
fresh_for g m events p = fresh (suc (longest (names_of (made g m events)))) (length (body_of g p))

pub can_fresh : (g : Grammar) (m : ℕ) (events : List Event) (i : Instance) (p : ℕ) → p < length g.productions → head_of g p ≡ i.module_no → IsIn i (made g m events) → expanded_by events i.name ≡ None → CanExpand g m events i.name p (fresh_for g m events p)
unfolding fresh_for
can_fresh g m events i p hp hd here none = record {
  in_range = hp;
  stands = subst (λ z. IsIn (record { name = i.name; module_no = z }) (made g m events)) (sym hd) here;
  open_end = none;
  one_each = length-fresh long (length (body_of g p));
  good = λ k h. fresh_good long (length (body_of g p)) k (omega arith) h;
  differ = fresh_differ long (length (body_of g p));
  new = λ k h q. let a = fresh_long long (length (body_of g p)) k h in let b = below_longest k (names_of (made g m events)) q in absurd (omega arith);
}
  where
    long : ℕ
    long = suc (longest (names_of (made g m events)))

pub address_kept : (e more : List Event) (a : List Step) (n x : List ℕ) → IsAddress e n a x → IsAddress (e ++ more) n a x
address_kept e more [] n x h = h
address_kept e more (s ∷ a) n x h = (h.0, expansion_kept e more n _ h.1, h.2, address_kept e more a (get_or h.0 s.position []) x h.3)

pub address_more : (events : List Event) (a : List Step) (n c : List ℕ) (s : Step) (names : List (List ℕ)) → IsAddress events n a c → expanded_by events c ≡ Some (record { production = s.production; names = names }) → s.position < length names → IsAddress events n (a ++ s ∷ []) (get_or names s.position [])
address_more events [] n c s names h e l = (names, ap (expanded_by events) h ∙ e, l, refl)
address_more events (t ∷ a) n c s names h e l = (h.0, h.1, h.2, address_more events a (get_or h.0 t.position []) c s names h.3 e l)

-- an instance on the way along an address
abbrev IsOnWay : List Event → List ℕ → List Step → List ℕ → Type 0
IsOnWay e n a j = (before : List Step) × (s : Step) × (after : List Step) × (a ≡ before ++ s ∷ after) × IsAddress e n before j

-- what stands on the way is expanded as the steps say, as far as it is
abbrev Fits : List Event → List ℕ → List Step → Type 0
Fits e n [] = Unit {0}
Fits e n (s ∷ a) = (expanded_by e n ≡ None) ⊎ ((names : List (List ℕ)) × (expanded_by e n ≡ Some (record { production = s.production; names = names })) × Fits e (get_or names s.position []) a)

-- the run e has become f: the steps lead from n to an instance, and what is newly expanded stands on the way
record IsGrown (e f : List Event) (n : List ℕ) (a : List Step) : Type 0 where
  has : (x : List ℕ) × IsAddress f n a x
  only : (j : List ℕ) (y : Expanded) → expanded_by f j ≡ Some y → ((z : Expanded) × (expanded_by e j ≡ Some z)) ⊎ IsOnWay f n a j

-- a run can go on to have an address
abbrev Grows : Grammar → ℕ → List Event → List ℕ → List Step → Type 0
Grows g m e n a = (more : List Event) × AllExtend g m e more × IsGrown e (e ++ more) n a

fits_shut : (e : List Event) (n : List ℕ) (a : List Step) → expanded_by e n ≡ None → Fits e n a
fits_shut e n [] h = tt
fits_shut e n (s ∷ a) h = inl h

-- a name that is not there is not expanded
pub unmade : (g : Grammar) (m : ℕ) (e : List Event) → IsRun g m e → (k : List ℕ) → (IsIn k (names_of (made g m e)) → ⊥) → expanded_by e k ≡ None
unmade g m e run k h = go (expanded_by e k) refl
  where
    go : (o : Option Expanded) → expanded_by e k ≡ o → expanded_by e k ≡ None
    go None q = q
    go (Some y) q = absurd (h ((run_state g (all_view g) m e run).expanded_made k y q))

grow : (g : Grammar) (m : ℕ) (a : List Step) (e : List Event) (i : Instance) → IsRun g m e → IsIn i (made g m e) → IsRoute g i.module_no a → Fits e i.name a → Grows g m e i.name a
grow g m [] e i run here route fits = (
  [],
  tt,
  record {
    has = (i.name, refl);
    only = λ j y h. inl (y, ap (λ l. expanded_by l j) (sym (append-nil e)) ∙ h);
  },
)
grow g m (s ∷ a) e i run here route fits = ⊎_elim (shut (grow g m a)) (opened (grow g m a)) fits
  where
    shut : ((e : List Event) (i : Instance) → IsRun g m e → IsIn i (made g m e) → IsRoute g i.module_no a → Fits e i.name a → Grows g m e i.name a) → expanded_by e i.name ≡ None → Grows g m e i.name (s ∷ a)
    shut ih none =
        let p = s.production in
        let new = fresh_for g m e p in
        let can = can_fresh g m e i p route.0 route.1 here none in
        let ev = Expand i.name p new in
        let run1 : IsRun g m (e ++ ev ∷ []) = extended g m e (ev ∷ []) [] run (can, tt) in
        let hk : s.position < length new = omega (arith, can.one_each, route.2) in
        let c = get_or new s.position [] in
        let cn = at_in c s.position new (is_at s.position new [] hk) in
        let ci : IsIn (record { name = c; module_no = target_of g s }) (named new (body_of g p)) = named_at c (target_of g s) s.position new (body_of g p) (is_at s.position new [] hk) (is_at s.position (body_of g p) 0 route.2) in
        let told : expanded_by (e ++ ev ∷ []) i.name ≡ Some (record { production = p; names = new }) = expansion_later e (ev ∷ []) i.name none ∙ ap (λ b. cond {A = Option Expanded} b (Some (record { production = p; names = new })) None) (bytes_same i.name i.name refl) in
        let other : i.name ≡ c → ⊥ = λ q. can.new c cn (subst (λ l. IsIn l (names_of (made g m e))) q (name_in i (made g m e) here)) in
        let none1 : expanded_by (e ++ ev ∷ []) c ≡ None = expansion_other e i.name p new c other ∙ unmade g m e run c (can.new c cn) in
        let r = ih (e ++ ev ∷ []) (record { name = c; module_no = target_of g s }) run1 (made_new g m e ev (record { name = c; module_no = target_of g s }) ci) route.3 (fits_shut (e ++ ev ∷ []) c a none1) in
        let kept = expansion_kept (e ++ ev ∷ []) r.0 i.name (record { production = p; names = new }) told in
        let old : (j : List ℕ) (z : Expanded) → expanded_by (e ++ ev ∷ []) j ≡ Some z → ((z : Expanded) × (expanded_by e j ≡ Some z)) ⊎ IsOnWay ((e ++ ev ∷ []) ++ r.0) i.name (s ∷ a) j =
        λ j z q. first_of_way p new ((e ++ ev ∷ []) ++ r.0) j z q (bytes_eq i.name j) refl in
        let done : IsGrown e ((e ++ ev ∷ []) ++ r.0) i.name (s ∷ a) = record {
          has = (r.2.has.0, (new, kept, hk, r.2.has.1));
          only = λ j y h. ⊎_elim (λ z. old j z.0 z.1) (λ z. inr (s ∷ z.0, z.1, z.2, ap (λ l. s ∷ l) {y = z.0 ++ z.1 ∷ z.2} z.3, (new, kept, hk, z.4))) (r.2.only j y h);
        } in
        (ev ∷ r.0, (can, r.1), subst (λ l. IsGrown e l i.name (s ∷ a)) (append_assoc e (ev ∷ []) r.0) done)
      where
        first_of_way : (p : ℕ) (new : List (List ℕ)) (f : List Event) (j : List ℕ) (z : Expanded) → expanded_by (e ++ Expand i.name p new ∷ []) j ≡ Some z → (t : Bool) → bytes_eq i.name j ≡ t → ((z : Expanded) × (expanded_by e j ≡ Some z)) ⊎ IsOnWay f i.name (s ∷ a) j
        first_of_way p new f j z q true t = inr ([], s, a, refl, same_bytes i.name j t)
        first_of_way p new f j z q false t = inl (z, sym (expansion_other e i.name p new j (λ w. true≢false (sym (bytes_same i.name j w) ∙ t))) ∙ q)

    opened : ((e : List Event) (i : Instance) → IsRun g m e → IsIn i (made g m e) → IsRoute g i.module_no a → Fits e i.name a → Grows g m e i.name a) → ((names : List (List ℕ)) × (expanded_by e i.name ≡ Some (record { production = s.production; names = names })) × Fits e (get_or names s.position []) a) → Grows g m e i.name (s ∷ a)
    opened ih f =
        let o = opening g m [] e i.name (record { production = s.production; names = f.0 }) run f.1 in
        let hk : s.position < length f.0 = omega (arith, o.one_each, route.2) in
        let c = get_or f.0 s.position [] in
        let ci = kids_made g m [] e i.name (record { production = s.production; names = f.0 }) run f.1 (record { name = c; module_no = target_of g s })
        (named_at c (target_of g s) s.position f.0 (body_of g s.production) (is_at s.position f.0 [] hk) (is_at s.position (body_of g s.production) 0 route.2)) in
        let r = ih e (record { name = c; module_no = target_of g s }) run ci route.3 f.2 in
        let kept = expansion_kept e r.0 i.name (record { production = s.production; names = f.0 }) f.1 in (
          r.0,
          r.1,
          record {
            has = (r.2.has.0, (f.0, kept, hk, r.2.has.1));
            only = λ j y h. ⊎_elim (λ z. inl z) (λ z. inr (s ∷ z.0, z.1, z.2, ap (λ l. s ∷ l) {y = z.0 ++ z.1 ∷ z.2} z.3, (f.0, kept, hk, z.4))) (r.2.only j y h);
          },
        )

module _ (g : Grammar) (wf : IsWellFormed g) (m : ℕ) (e : List Event) (run : IsRun g m e) (all : List Step) (only : (j : List ℕ) (y : Expanded) → expanded_by e j ≡ Some y → IsOnWay e (root_of e) all j) where
  -- an instance whose address does not begin the way is not expanded
  off_way : (pre : List Step) (n : List ℕ) → IsAddress e (root_of e) pre n → ((s : Step) (after : List Step) → all ≡ pre ++ s ∷ after → ⊥) → expanded_by e n ≡ None
  off_way pre n al off = go (expanded_by e n) refl
    where
      go : (o : Option Expanded) → expanded_by e n ≡ o → expanded_by e n ≡ None
      go None q = q
      go (Some y) q =
          let w = only n y q in
          let same = address_law g wf m e run w.0 pre n w.4 al in
          absurd (off w.1 w.2 (w.3 ∙ ap (λ l. l ++ w.1 ∷ w.2) same))

  -- so a route that agrees with the way fits
  agreeing_fits : (a b pre : List Step) (n x : List ℕ) (k : ℕ) → all ≡ pre ++ a → IsAddress e (root_of e) pre n → IsAddress e n a x → IsRoute g k b → Agree a b → Fits e n b
  agreeing_fits a [] pre n x k eq al rest route ag = tt
  agreeing_fits [] (t ∷ b) pre n x k eq al rest route ag =
      inl (off_way pre n al (λ s after q. let z : [] ≡ s ∷ after = append_cancel_left pre [] (s ∷ after) (sym eq ∙ q) in (cc)))
  agreeing_fits (s ∷ a) (t ∷ b) pre n x k eq al rest route ag =
      let o = opening g m [] e n (record { production = s.production; names = rest.0 }) run rest.1 in
      let told : expanded_by e n ≡ Some (record { production = t.production; names = rest.0 }) = rest.1 ∙ ap (λ z. Some (record { production = z; names = rest.0 })) ag.0 in
      let ot = opening g m [] e n (record { production = t.production; names = rest.0 }) run told in
      let ht : t.position < length rest.0 = omega (arith, ot.one_each, route.2) in
      inr (
        rest.0,
        told,
        ⊎_elim
            (λ q.
            let al' = address_more e pre (root_of e) n s rest.0 al rest.1 rest.2 in
            let f = agreeing_fits a b (pre ++ s ∷ []) (get_or rest.0 s.position []) x (target_of g t) (eq ∙ sym (append_assoc pre (s ∷ []) a)) al' rest.3 route.3 (ag.1 q) in
            subst (λ z. Fits e (get_or rest.0 z []) b) q f)
            (λ ne.
            let al' = address_more e pre (root_of e) n t rest.0 al told ht in
            fits_shut e (get_or rest.0 t.position []) b
            (off_way (pre ++ t ∷ []) (get_or rest.0 t.position []) al'
            (λ w after q.
            let z : s ∷ a ≡ t ∷ w ∷ after = append_cancel_left pre (s ∷ a) (t ∷ w ∷ after) (sym eq ∙ (q ∙ append_assoc pre (t ∷ []) (w ∷ after))) in
            let z' : s ≡ t = cc in
            ne (ap (λ (v : Step). v.position) z'))))
            (cases_eq s.position t.position),
      )

pub routes_law : RoutesLaw
routes_law g wf m a b ra rb ag =
    let start : IsRun g m (Start first ∷ []) = ((refl, first_good), tt) in
    let i : Instance = record { name = first; module_no = m } in
    let one = grow g m a (Start first ∷ []) i start (inl refl) ra (fits_shut (Start first ∷ []) first a refl) in
    let run : IsRun g m (Start first ∷ one.0) = extended g m (Start first ∷ []) one.0 [] start one.1 in
    let only : (j : List ℕ) (y : Expanded) → expanded_by (Start first ∷ one.0) j ≡ Some y → IsOnWay (Start first ∷ one.0) first a j =
    λ j y h. ⊎_elim (λ z. absurd (let q = z.1 in (cc))) (λ z. z) (one.2.only j y h) in
    let fits = agreeing_fits g wf m (Start first ∷ one.0) run a only a b [] first one.2.has.0 m refl refl one.2.has.1 rb ag in
    let two = grow g m b (Start first ∷ one.0) i run (inl refl) rb fits in (
      Start first ∷ one.0 ++ two.0,
      extended g m (Start first ∷ one.0) two.0 [] run two.1,
      (one.2.has.0, address_kept (Start first ∷ one.0) two.0 a first one.2.has.0 one.2.has.1),
      (two.2.has.0, two.2.has.1),
    )
  where
    first : List ℕ
    first = 97 ∷ []

    first_good : IsName first
    first_good = (omega arith, λ c h. inl (⊎_elim (λ e. (omega arith, omega arith)) (λ e. absurd e) h))
