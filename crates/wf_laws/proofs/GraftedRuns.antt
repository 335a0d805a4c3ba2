-- A graft is a run.
use Rattle.std.proofs.Common.{◌≡◌, ◌≢◌, ℕ, zero, suc, ◌+◌, ◌<◌, ◌≤◌, ◌⊎◌, List, [], ◌∷◌, ◌++◌, map, length, get_or, flat_map, None, refl, sym, ap, ◌∙◌, subst, inl, inr, ⊎_elim, arith}
use Rattle.std.proofs.lemmas.Bool.{cases_lt}
use Rattle.std.proofs.lemmas.List.{length-map, get_or-map}
use Rattle.wf_model.specs.Lists.{IsIn, IsAt, AllDiffer}
use Rattle.wf_model.specs.Grammar.{Grammar, head_of, body_of}
use Rattle.wf_model.specs.declared.event.Event.{Event}
use Rattle.wf_model.specs.declared.event.Event.TheVariants.{Start, Expand}
use Rattle.wf_model.specs.Run.{IsName, made, names_of, expanded_by, CanExpand, AllExtend, IsRun, root_of}
use Rattle.wf_model.proofs.Lists.{in_at, at_is, at_below, is_at}
use Rattle.wf_model.proofs.Runs.{named_at, expansion_later, expansion_other, made_new, name_cases}
use Rattle.wf_laws.specs.Graft.{after_start, graft, run_at, place_module, names_at, AreRuns, AreApart}
use Rattle.wf_laws.proofs.Growth.{extended, made_kept_all}
use Rattle.wf_laws.proofs.HeldRuns.{IsShut, run_shut, shut_more, Holds, goes_in}

-- a run that has begun is a start event that names its root, and what comes after it
pub begins : (g : Grammar) (m : ℕ) (e : List Event) → IsRun g m e → e ≢ [] → e ≡ Start (root_of e) ∷ after_start e
begins g m [] run started = absurd (started refl)
begins g m (Start r ∷ e) run started = refl
begins g m (Expand i p new ∷ e) run started = absurd run.0.stands

-- elements that differ by place differ
differ_from : (xs : List (List ℕ)) → ((j k : ℕ) → j < length xs → k < length xs → get_or xs j [] ≡ get_or xs k [] → j ≡ k) → AllDiffer xs
differ_from [] h = tt
differ_from (x ∷ xs) h = (
  (λ q. let a = in_at x xs q in let z = h zero (suc a.0) (omega arith) (let l = at_below x a.0 xs a.1 in omega arith) (sym (at_is x a.0 xs [] a.1)) in absurd (omega arith)),
  differ_from xs (λ j k hj hk e. let z = h (suc j) (suc k) (omega arith) (omega arith) e in omega arith),
)

module _ (g : Grammar) (r : List ℕ) (p : ℕ) (runs : List (List Event)) (are : AreRuns g p runs) (apart : AreApart g r p runs) where
  pub root_child : (k : ℕ) → k < length runs → get_or (map root_of runs) k [] ≡ root_of (run_at runs k)
  root_child k l = get_or-map root_of runs k [] [] l

  -- the root of a run is one of its names, and a name
  pub root_named : (k : ℕ) → k < length runs → IsIn (root_of (run_at runs k)) (names_at g p runs k) × IsName (root_of (run_at runs k))
  root_named k l = go (run_at runs k) (are.run k l) (are.started k l)
    where
      go : (e : List Event) → IsRun g (place_module g p k) e → e ≢ [] → IsIn (root_of e) (names_of (made g (place_module g p k) e)) × IsName (root_of e)
      go [] run started = absurd (started refl)
      go (Start s ∷ e) run started = (inl refl, run.0.1)
      go (Expand i q new ∷ e) run started = absurd run.0.stands

  root_in : (n : List ℕ) → IsIn n (map root_of runs) → (k : ℕ) × (k < length runs) × (n ≡ root_of (run_at runs k))
  root_in n h =
      let a = in_at n (map root_of runs) h in
      let l : a.0 < length runs = let z = at_below n a.0 (map root_of runs) a.1 in omega (arith, length-map runs root_of) in
      (a.0, l, sym (at_is n a.0 (map root_of runs) [] a.1) ∙ root_child a.0 l)

  root_expands : CanExpand g (head_of g p) (Start r ∷ []) r p (map root_of runs)
  root_expands = record {
    in_range = are.in_range;
    stands = inl refl;
    open_end = refl;
    one_each = length-map runs root_of ∙ are.one_each;
    good = λ n h. let q = root_in n h in subst IsName (sym q.2) (root_named q.0 q.1).1;
    differ = differ_from (map root_of runs) (λ j k hj hk e.
        let lj : j < length runs = omega (arith, length-map runs root_of) in
        let lk : k < length runs = omega (arith, length-map runs root_of) in
        apart.apart j k (root_of (run_at runs k)) lj lk (subst (λ z. IsIn z (names_at g p runs j)) (sym (root_child j lj) ∙ (e ∙ root_child k lk)) (root_named j lj).0) (root_named k lk).0);
    new = λ n h q. let z = root_in n h in apart.new z.0 z.1 (subst (λ z'. IsIn z' (names_at g p runs z.0)) (sym z.2 ∙ ⊎_elim (λ a. a) (λ a. absurd a) q) (root_named z.0 z.1).0);
  }

  -- names of the root and of other runs: those before the j-th, and the roots of those behind it
  abbrev Others : ℕ → List ℕ → Type 0
  Others j n = (n ≡ r) ⊎ ((i : ℕ) × (i < length runs) × (i ≡ j → ⊥) × IsIn n (names_at g p runs i) × ((i < j) ⊎ (n ≡ root_of (run_at runs i))))

  -- the runs before the j-th are grafted
  record IsGraftedTo (j : ℕ) (b : List Event) : Type 0 where
    names : (n : List ℕ) → IsIn n (names_of (made g (head_of g p) b)) → (n ≡ r) ⊎ ((i : ℕ) × (i < length runs) × IsIn n (names_at g p runs i) × ((i < j) ⊎ (n ≡ root_of (run_at runs i))))
    root_made : (i : ℕ) → j ≤ i → i < length runs → IsIn (record { name = root_of (run_at runs i); module_no = place_module g p i }) (made g (head_of g p) b)
    root_shut : (i : ℕ) → j ≤ i → i < length runs → expanded_by b (root_of (run_at runs i)) ≡ None
    shut : IsShut g (head_of g p) b

  -- what a run does not make it does not expand
  unmade : (k : ℕ) (l : k < length runs) (n : List ℕ) → (IsIn n (names_at g p runs k) → ⊥) → expanded_by (after_start (run_at runs k)) n ≡ None
  unmade k l n h =
      let m = place_module g p k in
      ap (λ e. expanded_by e n) (sym (begins g m (run_at runs k) (are.run k l) (are.started k l))) ∙ run_shut g m (run_at runs k) (are.run k l) n h

  module _ (j : ℕ) (l : j < length runs) (b : List Event) (to : IsGraftedTo j b) where
    others_apart : (n : List ℕ) → IsIn n (names_at g p runs j) → Others j n → ⊥
    others_apart n h (inl e) = apart.new j l (subst (λ z. IsIn z (names_at g p runs j)) e h)
    others_apart n h (inr q) = q.2 (apart.apart q.0 j n q.1 l q.3 h)

    -- the root of the j-th run stands there
    root_held : Holds g (head_of g p) (place_module g p j) (Others j) b (Start (root_of (run_at runs j)) ∷ [])
    root_held = record {
      part = λ i q. ⊎_elim (λ e. subst (λ z. IsIn z (made g (head_of g p) b)) (sym e) (to.root_made j (omega arith) l)) (λ a. absurd a) q;
      within = λ n q. ⊎_elim (λ e. ap (expanded_by b) e ∙ to.root_shut j (omega arith) l) (λ a. absurd a) q;
      names = λ n q. ⊎_elim (λ e. inl (inl e)) (λ z. by_place n z.0 z.1 z.2 z.3) (to.names n q);
      outer_shut = to.shut;
      inner_shut = λ n q. refl;
      begun = (root_of (run_at runs j), inl refl);
    }
      where
        by_place : (n : List ℕ) (i : ℕ) → i < length runs → IsIn n (names_at g p runs i) → (i < j) ⊎ (n ≡ root_of (run_at runs i)) → Others j n ⊎ IsIn n (root_of (run_at runs j) ∷ [])
        by_place n i li h (inl lt) = inl (inr (i, li, (λ q. absurd (omega arith)), h, inl lt))
        by_place n i li h (inr e) = ⊎_elim
            (λ lt. inl (inr (i, li, (λ q. absurd (omega arith)), h, inl lt)))
            (λ ge. ⊎_elim
            (λ gt. inl (inr (i, li, (λ q. absurd (omega arith)), h, inr e)))
            (λ le. inr (inl (e ∙ ap (λ z. root_of (run_at runs z)) (let q : i ≡ j = omega arith in q))))
            (cases_lt j i))
            (cases_lt i j)

    run_goes_in : AllExtend g (head_of g p) b (after_start (run_at runs j)) × Holds g (head_of g p) (place_module g p j) (Others j) (b ++ after_start (run_at runs j)) (Start (root_of (run_at runs j)) ∷ after_start (run_at runs j))
    run_goes_in =
        let is = begins g (place_module g p j) (run_at runs j) (are.run j l) (are.started j l) in
        goes_in g (head_of g p) (place_module g p j) (Others j) (after_start (run_at runs j)) b (Start (root_of (run_at runs j)) ∷ []) root_held
        (subst (IsRun g (place_module g p j)) is (are.run j l)).1
        (λ n q. others_apart n (subst (λ z. IsIn n (names_of (made g (place_module g p j) z))) (sym is) q))

    next_grafted : IsGraftedTo (suc j) (b ++ after_start (run_at runs j))
    next_grafted =
        let is = begins g (place_module g p j) (run_at runs j) (are.run j l) (are.started j l) in
        record {
          names = λ n q. ⊎_elim
              (λ a. ⊎_elim (λ e. inl e) (λ z. inr (z.0, z.1, z.3, ⊎_elim (λ lt. inl (let w : z.0 < suc j = omega (arith, lt) in w)) (λ e. inr e) z.4)) a)
              (λ h. inr (j, l, subst (λ z. IsIn n (names_of (made g (place_module g p j) z))) (sym is) h, inl (let w : j < suc j = omega arith in w)))
              (run_goes_in.1.names n q);
          root_made = λ i h li. made_kept_all g (head_of g p) (after_start (run_at runs j)) b _ (to.root_made i (omega arith) li);
          root_shut = λ i h li. expansion_later b (after_start (run_at runs j)) (root_of (run_at runs i)) (to.root_shut i (omega arith) li) ∙
              unmade j l (root_of (run_at runs i)) (λ q. let e = apart.apart j i (root_of (run_at runs i)) l li q (root_named i li).0 in absurd (omega arith));
          shut = run_goes_in.1.outer_shut;
        }

  all_go_in : (later : List (List Event)) (j : ℕ) (b : List Event) → j + length later ≡ length runs → ((i : ℕ) → i < length later → run_at later i ≡ run_at runs (j + i)) → IsGraftedTo j b → AllExtend g (head_of g p) b (flat_map after_start later)
  all_go_in [] j b size same to = tt
  all_go_in (d ∷ later) j b size same to =
      let l : j < length runs = omega arith in
      let first : j + zero ≡ j = omega arith in
      let e : d ≡ run_at runs j = same zero (omega arith) ∙ ap (run_at runs) first in
      let after = after_start (run_at runs j) in
      subst (λ z. AllExtend g (head_of g p) b (after_start z ++ flat_map after_start later)) (sym e)
      (extended g (head_of g p) after (flat_map after_start later) b (run_goes_in j l b to).0
      (all_go_in later (suc j) (b ++ after) (omega arith) (λ i h. same (suc i) (omega arith) ∙ ap (run_at runs) (let w : j + suc i ≡ suc j + i = omega arith in w)) (next_grafted j l b to)))

  root_grafted : IsGraftedTo zero (Start r ∷ Expand r p (map root_of runs) ∷ [])
  root_grafted =
      let start = Start r ∷ [] in
      let names = map root_of runs in
      record {
        names = λ n q. ⊎_elim
            (λ a. ⊎_elim (λ e. inl e) (λ z. absurd z) a)
            (λ a. let z = root_in n a in inr (z.0, z.1, subst (λ w. IsIn w (names_at g p runs z.0)) (sym z.2) (root_named z.0 z.1).0, inr z.2))
            (name_cases g (head_of g p) start r p names n q);
        root_made = λ i h li. made_new g (head_of g p) start (Expand r p names) (record { name = root_of (run_at runs i); module_no = place_module g p i })
            (named_at (root_of (run_at runs i)) (place_module g p i) i names (body_of g p)
            (subst (λ z. IsAt z i names) (root_child i li) (is_at i names [] (omega (arith, length-map runs root_of))))
            (is_at i (body_of g p) 0 (omega (arith, are.one_each))));
        root_shut = λ i h li. expansion_other start r p names (root_of (run_at runs i)) (λ e. apart.new i li (subst (λ z. IsIn z (names_at g p runs i)) (sym e) (root_named i li).0));
        shut = shut_more g (head_of g p) start r p names root_expands (λ n q. refl);
      }

  pub graft_run : IsRun g (head_of g p) (graft r p runs)
  graft_run =
      let size : zero + length runs ≡ length runs = omega arith in
      ((refl, apart.root), (root_expands, all_go_in runs zero (Start r ∷ Expand r p (map root_of runs) ∷ []) size (λ i h. ap (run_at runs) (let w : i ≡ zero + i = omega arith in w)) root_grafted))
