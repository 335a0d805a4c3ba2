-- Runs can be carried on: an instance and all below it are expanded as a plan says, with fresh names.
use Rattle.std.proofs.Common.{◌≡◌, ℕ, zero, suc, ◌+◌, ◌<◌, ◌≤◌, ◌⊎◌, max, Bool, true, false, cond, List, [], ◌∷◌, ◌++◌, map, length, filter, replicate, Option, Some, None, refl, sym, ap, ◌∙◌, subst, inl, inr, ⊎_elim, arith, true≢false, append_assoc, append-nil, zero-add, suc-add, add_comm, is_none}
use Rattle.std.proofs.lemmas.List.{length-replicate}
use Rattle.wf_model.specs.Lists.{IsIn, AllDiffer}
use Rattle.wf_model.specs.Grammar.{Grammar, body_of, IsProductionOf}
use Rattle.wf_model.specs.Proper.{IsProper, RankWithin}
use Rattle.wf_model.specs.View.{View, expands}
use Rattle.wf_model.specs.declared.event.Event.{Event}
use Rattle.wf_model.specs.declared.event.Event.TheVariants.{Expand}
use Rattle.wf_model.specs.Run.{Instance, Expanded, IsName, named, made, names_of, expanded_by, CanExpand, AllExtend, IsRun, seen_in}
use Rattle.wf_model.specs.Safe.{Ends}
use Rattle.wf_model.specs.Finishing.{ExpandsComposites, IsFinishing, FinishingLaw}
use Rattle.wf_model.proofs.Lists.{in_append_left, in_append_cases, in_map, bytes_same, in_filter, in_filter_from, at_in}
use Rattle.wf_model.proofs.Differ.{made_differ}
use Rattle.wf_model.proofs.Runs.{made-append, named_names, names-named, expansion_kept, expansion_later, expansion_other, name_in, name_from, made_new, name_kept, IsState, run_state, at_named}

-- names of increasing lengths, from l on
pub fresh : ℕ → ℕ → List (List ℕ)
fresh l zero = []
fresh l (suc n) = replicate l 97 ∷ fresh (suc l) n

pub length-fresh : (l n : ℕ) → length (fresh l n) ≡ n
unfolding fresh
length-fresh l zero = refl
length-fresh l (suc n) = ap suc (length-fresh (suc l) n)

pub fresh_long : (l n : ℕ) (x : List ℕ) → IsIn x (fresh l n) → l ≤ length x
unfolding fresh
fresh_long l zero x h = absurd h
fresh_long l (suc n) x (inl e) = omega (arith, ap length e, length-replicate {A = ℕ} l 97)
fresh_long l (suc n) x (inr h) = let r = fresh_long (suc l) n x h in omega arith

pub fresh_differ : (l n : ℕ) → AllDiffer (fresh l n)
unfolding fresh
fresh_differ l zero = tt
fresh_differ l (suc n) = ((λ h. let r = fresh_long (suc l) n (replicate l 97) h in absurd (omega (arith, length-replicate {A = ℕ} l 97))), fresh_differ (suc l) n)

pub in_replicate : (b c n : ℕ) → IsIn b (replicate n c) → b ≡ c
in_replicate b c zero h = absurd h
in_replicate b c (suc n) (inl e) = e
in_replicate b c (suc n) (inr h) = in_replicate b c n h

pub fresh_good : (l n : ℕ) (x : List ℕ) → 0 < l → IsIn x (fresh l n) → IsName x
unfolding fresh
fresh_good l zero x h q = absurd q
fresh_good l (suc n) x h (inl e) =
    ((omega (arith, ap length e, length-replicate {A = ℕ} l 97)), λ b q. let s : b ≡ 97 = in_replicate b 97 l (subst (IsIn b) e q) in inl (omega arith, omega arith))
fresh_good l (suc n) x h (inr q) = fresh_good (suc l) n x (omega arith) q

pub longest : List (List ℕ) → ℕ
longest [] = 0
longest (x ∷ xs) = max (length x) (longest xs)

pub below_longest : (x : List ℕ) (xs : List (List ℕ)) → IsIn x xs → length x ≤ longest xs
unfolding longest
below_longest x [] h = absurd h
below_longest x (y ∷ xs) (inl e) = omega (arith, ap length e)
below_longest x (y ∷ xs) (inr h) = let r = below_longest x xs h in omega arith

-- a run that goes on twice goes on by all of these events
pub extended : (g : Grammar) (m : ℕ) (more more' b : List Event) → AllExtend g m b more → AllExtend g m (b ++ more) more' → AllExtend g m b (more ++ more')
extended g m [] more' b x y = subst (λ l. AllExtend g m l more') (append-nil b) y
extended g m (e ∷ more) more' b x y = (x.0, extended g m more more' (b ++ e ∷ []) x.1 (subst (λ l. AllExtend g m l more') (sym (append_assoc b (e ∷ []) more)) y))

module _ (g : Grammar) where
  -- what is made stays
  pub made_kept_all : (m : ℕ) (more b : List Event) (i : Instance) → IsIn i (made g m b) → IsIn i (made g m (b ++ more))
  made_kept_all m more b i h = subst (IsIn i) (sym (made-append g m b more)) (in_append_left i (made g m b) (made g m more) h)

  pub name_kept_all : (m : ℕ) (more b : List Event) (n : List ℕ) → IsIn n (names_of (made g m b)) → IsIn n (names_of (made g m (b ++ more)))
  name_kept_all m more b n h = let r = name_from n (made g m b) h in subst (λ l. IsIn l (names_of (made g m (b ++ more)))) (sym r.2) (name_in r.0 _ (made_kept_all m more b r.0 r.1))

module _ (g : Grammar) (u : View) (Chosen : ℕ → ℕ → Type 0) where
  abbrev pub Plan : ℕ → ℕ → Type 0
  Plan n m = Ends g u Chosen n m

  ends_more : (n m : ℕ) → Plan n m → Plan (suc n) m
  ends_more zero m h = inl h
  ends_more (suc n) m (inl h) = inl h
  ends_more (suc n) m (inr q) = inr (q.0, q.1, q.2, λ k i. ends_more n k (q.3 k i))

  ends_up : (k n m : ℕ) → Plan n m → Plan (k + n) m
  ends_up zero n m h = subst (λ z. Plan z m) (sym (zero-add n)) h
  ends_up (suc k) n m h = subst (λ z. Plan z m) (sym (suc-add k n)) (ends_more (k + n) m (ends_up k n m h))

  -- one number of rounds for all of a list
  pub ends_bound : (ms : List ℕ) → ((m : ℕ) → IsIn m ms → (n : ℕ) × Plan n m) → (n : ℕ) × ((m : ℕ) → IsIn m ms → Plan n m)
  ends_bound [] h = (0, λ m q. absurd q)
  ends_bound (k ∷ ms) h =
      let a = h k (inl refl) in
      let b = ends_bound ms (λ m q. h m (inr q)) in (
        a.0 + b.0,
        λ m q. ⊎_elim
            (λ e. subst (λ z. Plan z m) (add_comm b.0 a.0) (ends_up b.0 a.0 m (subst (λ z. Plan a.0 z) (sym e) a.1)))
            (λ z. ends_up a.0 b.0 m (b.1 m z)) q,
      )

  -- an instance that is not pending, and is expanded as chosen
  abbrev pub IsDone : List Event → Instance → Type 0
  IsDone events j = expands u j.module_no ≡ true → (p : ℕ) × (names : List (List ℕ)) × (expanded_by events j.name ≡ Some (record { production = p; names = names })) × Chosen j.module_no p

  -- further events that settle these instances and those that they make, and leave the others alone
  pub record Settles (m : ℕ) (events : List Event) (js : List Instance) (more : List Event) : Type 0 where
    pub extend : AllExtend g m events more
    pub others : (n : List ℕ) → IsIn n (names_of (made g m events)) → (IsIn n (names_of js) → ⊥) → expanded_by (events ++ more) n ≡ expanded_by events n
    pub settled : (j : Instance) → IsIn j js ⊎ IsIn j (made g m more) → IsDone (events ++ more) j

  settled_later : (events more : List Event) (j : Instance) → IsDone events j → IsDone (events ++ more) j
  settled_later events more j s = λ e. let q = s e in (q.0, q.1, expansion_kept events more j.name _ q.2, q.3)

  settles_both : (m : ℕ) (events : List Event) (i : Instance) (js : List Instance) (more more' : List Event) →
      Settles m events (i ∷ []) more → Settles m (events ++ more) js more' → Settles m events (i ∷ js) (more ++ more')
  settles_both m events i js more more' a b = record {
    extend = extended g m more more' events a.extend b.extend;
    others = λ n h q. subst (λ l. expanded_by l n ≡ expanded_by events n) (append_assoc events more more')
        (b.others n (name_kept_all g m more events n h) (λ z. q (inr z)) ∙ a.others n h (λ z. q (⊎_elim (λ e. inl e) (λ e. absurd e) z)));
    settled = λ j q. subst (λ l. IsDone l j) (append_assoc events more more')
        (⊎_elim
        (λ c. ⊎_elim (λ e. settled_later (events ++ more) more' j (a.settled j (inl (inl e)))) (λ e. b.settled j (inl e)) c)
        (λ c. ⊎_elim (λ e. settled_later (events ++ more) more' j (a.settled j (inr e))) (λ e. b.settled j (inr e))
        (in_append_cases j (made g m more) (made g m more') (subst (IsIn j) (made-append g m more more') c)))
        q);
  }

  -- an instance that may be settled: it stands, is not expanded, and has a plan
  abbrev pub CanSettle : ℕ → ℕ → List Event → Instance → Type 0
  CanSettle n m events i = IsIn i (made g m events) × (expanded_by events i.name ≡ None) × Plan n i.module_no

  pub settle_list : (n m : ℕ) → ((events : List Event) (i : Instance) → IsRun g m events → CanSettle n m events i → (more : List Event) × Settles m events (i ∷ []) more) →
      (js : List Instance) (events : List Event) → IsRun g m events → AllDiffer (names_of js) → ((j : Instance) → IsIn j js → CanSettle n m events j) → (more : List Event) × Settles m events js more
  settle_list n m one [] events run d can =
      ([], record { extend = tt; others = λ k h q. ap (λ l. expanded_by l k) (append-nil events); settled = λ j q. ⊎_elim (λ c. absurd c) (λ c. absurd c) q })
  settle_list n m one (i ∷ js) events run d can =
      let a = one events i run (can i (inl refl)) in
      let run' : IsRun g m (events ++ a.0) = extended g m events a.0 [] run a.1.extend in
      let b = settle_list n m one js (events ++ a.0) run' d.1
      (λ j h. let c = can j (inr h) in (
        made_kept_all g m a.0 events j c.0,
        a.1.others j.name (name_in j _ c.0) (λ z. ⊎_elim (λ e. d.0 (subst (λ l. IsIn l (names_of js)) e (name_in j js h))) (λ e. e) z) ∙ c.1,
        c.2,
      )) in
      (a.0 ++ b.0, settles_both m events i js a.0 b.0 a.1 b.1)

  shut_settles : (m : ℕ) (events : List Event) (i : Instance) → expands u i.module_no ≡ false → Settles m events (i ∷ []) []
  shut_settles m events i ex = record {
    extend = tt;
    others = λ k h q. ap (λ l. expanded_by l k) (append-nil events);
    settled = λ j q. ⊎_elim (λ c. ⊎_elim (λ e. λ t. absurd (true≢false (sym t ∙ (ap (λ (z : Instance). expands u z.module_no) e ∙ ex)))) (λ e. absurd e) c) (λ c. absurd c) q;
  }

  pub settle : (n m : ℕ) (events : List Event) (i : Instance) → IsRun g m events → CanSettle n m events i → (more : List Event) × Settles m events (i ∷ []) more
  settle zero m events i run c = ([], shut_settles m events i c.2)
  settle (suc n) m events i run c = ⊎_elim (λ ex. ([], shut_settles m events i ex)) (λ pl. opened (settle n m) pl) c.2
    where
      long : ℕ
      long = suc (longest (names_of (made g m events)))

      opened : ((events : List Event) (i : Instance) → IsRun g m events → CanSettle n m events i → (more : List Event) × Settles m events (i ∷ []) more) →
          ((p : ℕ) × Chosen i.module_no p × IsProductionOf g p i.module_no × ((k : ℕ) → IsIn k (body_of g p) → Plan n k)) → (more : List Event) × Settles m events (i ∷ []) more
      opened one pl =
          let p = pl.0 in
          let new = fresh long (length (body_of g p)) in
          let one_each : length new ≡ length (body_of g p) = length-fresh long (length (body_of g p)) in
          let is_new : (k : List ℕ) → IsIn k new → IsIn k (names_of (made g m events)) → ⊥ = λ k h q.
          let a = fresh_long long (length (body_of g p)) k h in let b = below_longest k (names_of (made g m events)) q in absurd (omega arith) in
          let can : CanExpand g m events i.name p new = record {
            in_range = pl.2.0;
            stands = subst (λ z. IsIn (record { name = i.name; module_no = z }) (made g m events)) (sym pl.2.1) c.0;
            open_end = c.1;
            one_each = one_each;
            good = λ k h. fresh_good long (length (body_of g p)) k (omega arith) h;
            differ = fresh_differ long (length (body_of g p));
            new = is_new;
          } in
          let e = Expand i.name p new in
          let st = run_state g u m events run in
          let shut : (k : List ℕ) → IsIn k new → expanded_by events k ≡ None = λ k h. unmade events st k (is_new k h) in
          let here = name_in i (made g m events) c.0 in
          let run1 : IsRun g m (events ++ e ∷ []) = extended g m events (e ∷ []) [] run (can, tt) in
          let r = settle_list n m one (named new (body_of g p)) (events ++ e ∷ []) run1
          (subst AllDiffer (sym (names-named new (body_of g p) one_each)) can.differ)
          (λ j h. let q = at_named j new (body_of g p) h in
          let nj = named_names j new (body_of g p) h in (
            made_new g m events e j h,
            expansion_other events i.name p new j.name (λ z. is_new j.name nj (subst (λ l. IsIn l (names_of (made g m events))) z here)) ∙ shut j.name nj,
            pl.3 j.module_no (at_in _ q.0 (body_of g p) q.2),
          )) in
          let eq : (events ++ e ∷ []) ++ r.0 ≡ events ++ e ∷ r.0 = append_assoc events (e ∷ []) r.0 in (
            e ∷ r.0,
            record {
              extend = (can, r.1.extend);
              others = λ k h q. subst (λ l. expanded_by l k ≡ expanded_by events k) eq
                  (r.1.others k (name_kept g m events e k h) (λ z. is_new k (subst (IsIn k) (names-named new (body_of g p) one_each) z) h) ∙ expansion_other events i.name p new k (λ z. q (inl (sym z))));
              settled = λ j q. subst (λ l. IsDone l j) eq
                  (⊎_elim
                  (λ a. ⊎_elim
                  (λ z. λ t. (
                    p,
                    new,
                    expansion_kept (events ++ e ∷ []) r.0 j.name _
                        (subst (λ (l : Instance). expanded_by (events ++ e ∷ []) l.name ≡ Some (record { production = p; names = new })) (sym z) (told p new)),
                    subst (λ (l : Instance). Chosen l.module_no p) (sym z) pl.1,
                  ))
                  (λ z. absurd z) a)
                  (λ a. r.1.settled j (in_append_cases j (named new (body_of g p)) (made g m r.0) a))
                  q);
            },
          )
        where
          unmade : (events : List Event) → IsState g m events (seen_in g u m events) → (k : List ℕ) → (IsIn k (names_of (made g m events)) → ⊥) → expanded_by events k ≡ None
          unmade events st k h = go (expanded_by events k) refl
            where
              go : (o : Option Expanded) → expanded_by events k ≡ o → expanded_by events k ≡ None
              go None e = e
              go (Some y) e = absurd (h (st.expanded_made k y e))

          told : (p : ℕ) (new : List (List ℕ)) → expanded_by (events ++ Expand i.name p new ∷ []) i.name ≡ Some (record { production = p; names = new })
          told p new = expansion_later events (Expand i.name p new ∷ []) i.name c.1 ∙ ap (λ b. cond {A = Option Expanded} b (Some (record { production = p; names = new })) None) (bytes_same i.name i.name refl)

differ_filter : (p : Instance → Bool) (is : List Instance) → AllDiffer (names_of is) → AllDiffer (names_of (filter p is))
differ_filter p [] d = tt
differ_filter p (i ∷ is) d = go (differ_filter p is d.1) (p i)
  where
    go : AllDiffer (names_of (filter p is)) → (b : Bool) → AllDiffer (names_of (cond b (i ∷ filter p is) (filter p is)))
    go ih false = ih
    go ih true = ((λ q. let r = name_from i.name (filter p is) q in d.0 (subst (λ l. IsIn l (names_of is)) (sym r.2) (name_in r.0 is (in_filter_from p r.0 is r.1).0))), ih)

-- any production serves
abbrev pub AnyProduction : ℕ → ℕ → Type 0
AnyProduction m p = Unit {0}

module _ (g : Grammar) (u : View) (proper : IsProper g) (ec : ExpandsComposites g u) where
  plan_of_rank : (n m : ℕ) → RankWithin g n m → Ends g u AnyProduction n m
  plan_of_rank zero m h = go (expands u m) refl
    where
      go : (b : Bool) → expands u m ≡ b → expands u m ≡ false
      go false e = e
      go true e = let c = ec m e in absurd (h c.0 c.1.0 c.1.1)
  plan_of_rank (suc n) m h = go (λ k. plan_of_rank n k) (expands u m) refl h
    where
      go : ((k : ℕ) → RankWithin g n k → Ends g u AnyProduction n k) → (b : Bool) → expands u m ≡ b → RankWithin g (suc n) m → Ends g u AnyProduction (suc n) m
      go ih false e h = inl e
      go ih true e (inl a) = let c = ec m e in absurd (a c.0 c.1.0 c.1.1)
      go ih true e (inr q) = inr (q.0, tt, q.1, λ k i. ih k (q.2 k i))

  plan : (m : ℕ) → (n : ℕ) × Ends g u AnyProduction n m
  plan m = go (expands u m) refl
    where
      go : (b : Bool) → expands u m ≡ b → (n : ℕ) × Ends g u AnyProduction n m
      go false e = (0, e)
      go true e = let r = proper.ranked m (ec m e) in (r.0, plan_of_rank r.0 m r.1)

  plans : (js : List Instance) → (n : ℕ) × ((j : Instance) → IsIn j js → Ends g u AnyProduction n j.module_no)
  plans js =
      let b = ends_bound g u AnyProduction (map (λ (j : Instance). j.module_no) js) (λ m h. plan m) in
      (b.0, λ j h. b.1 j.module_no (in_map (λ (i : Instance). i.module_no) j js h))

  -- not expanded yet
  is_shut : List Event → Instance → Bool
  is_shut events j = is_none (expanded_by events j.name)

  pub finishing : (m : ℕ) (events : List Event) → IsRun g m events → (more : List Event) × IsFinishing g u m events more
  unfolding is_shut
  finishing m events run =
      let js = filter (is_shut events) (made g m events) in
      let ps = plans js in
      let r = settle_list g u AnyProduction ps.0 m (settle g u AnyProduction ps.0 m) js events run (differ_filter (is_shut events) (made g m events) (made_differ g m [] events tt run))
      (λ j h. let q = in_filter_from (is_shut events) j (made g m events) h in (q.0, none_of (expanded_by events j.name) q.1, ps.1 j h)) in
      let whole : IsRun g m (events ++ r.0) = extended g m events r.0 [] run r.1.extend in (
        r.0,
        record {
          run = whole;
          finished = λ j pd.
              let s = (run_state g u m (events ++ r.0) whole).seen_made j pd.0 in
              ⊎_elim
              (λ a. old j r.0 r.1 pd.1 pd.2 a (expanded_by events j.name) refl)
              (λ a. clash (events ++ r.0) j (r.1.settled j (inr a) pd.1).2 pd.2)
              (in_append_cases j (made g m events) (made g m r.0) (subst (IsIn j) (made-append g m events r.0) s));
        },
      )
    where
      none_of : (o : Option Expanded) → is_none o ≡ true → o ≡ None
      none_of None h = refl
      none_of (Some y) h = absurd (true≢false (sym h))

      clash : (l : List Event) (j : Instance) {p : ℕ} {names : List (List ℕ)} → (expanded_by l j.name ≡ Some (record { production = p; names = names })) → expanded_by l j.name ≡ None → ⊥
      clash l j a b = let q = sym a ∙ b in (cc)

      old : (j : Instance) (more : List Event) → Settles g u AnyProduction m events (filter (is_shut events) (made g m events)) more → expands u j.module_no ≡ true → expanded_by (events ++ more) j.name ≡ None → IsIn j (made g m events) → (o : Option Expanded) → expanded_by events j.name ≡ o → ⊥
      old j more st ex none here None e = clash (events ++ more) j (st.settled j (inl (in_filter (is_shut events) j (made g m events) here (ap is_none e))) ex).2 none
      old j more st ex none here (Some y) e = let q = sym (expansion_kept events more j.name y e) ∙ none in (cc)

pub finishing_law : FinishingLaw
finishing_law g u proper ec m events run = finishing g u proper ec m events run
