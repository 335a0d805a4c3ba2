-- The run along a route, with numbered names, is a run, and has the route as an address.
use Rattle.std.proofs.Common.{◌≡◌, ℕ, ◌+◌, ◌*◌, ◌≤◌, ◌<◌, ◌^◌, cond, List, [], ◌∷◌, ◌++◌, length, Option, Some, None, refl, sym, ap, ◌∙◌, subst, inl, arith, append_assoc, append-nil}
use Rattle.std.proofs.lemmas.List.{length-map, map-append}
use Rattle.wf_model.specs.Lists.{IsIn, IsAt}
use Rattle.wf_model.specs.Grammar.{Grammar, body_of, head_of}
use Rattle.wf_model.specs.WellFormed.{IsWellFormed}
use Rattle.wf_model.specs.declared.event.Event.{Event}
use Rattle.wf_model.specs.declared.event.Event.TheVariants.{Start, Expand}
use Rattle.wf_model.specs.Run.{Instance, Expanded, named, made, names_of, expanded_by, CanExpand, IsRun, IsName}
use Rattle.wf_model.specs.Reach.{Step, target_of, module_along}
use Rattle.wf_model.specs.Routes.{IsAddress, IsRoute}
use Rattle.wf_model.proofs.Lists.{bytes_same, is_at, at_in, at_is}
use Rattle.wf_model.proofs.Runs.{made_more, names-named, expansion_kept, expansion_later, expansion_other, name_in, made_new, named_at}
use Rattle.wf_laws.proofs.Address.{seen_law}
use Rattle.wf_laws.proofs.Growth.{extended}
use Rattle.wf_laws.proofs.Routes.{unmade}
use Rattle.verdict_model.proofs.Hiding.{along_open}
use Rattle.numbered_names.specs.Names.{numbered_name, numbered_names}
use Rattle.numbered_names.proofs.Numbered.{name_same, name_good, name_from, length-names, names-append, name_at, names_differ}
use Rattle.compare_model.specs.RunAlong.{expand_along, number_along, run_along, name_along}
use Rattle.compare_model.specs.RunLaws.{RunAlongLaw}

module _ (g : Grammar) where
  -- a run with numbered names, and an unexpanded instance of it
  record IsNumbered (b : List Event) (next here m : ℕ) : Type 0 where
    run : IsRun g g.start b
    names : names_of (made g g.start b) ≡ numbered_names 0 next
    below : here < next
    stands : IsIn (record { name = numbered_name here; module_no = m }) (made g g.start b)
    shut : expanded_by b (numbered_name here) ≡ None

  -- the run goes on from there along the steps
  record GoesAlong (b : List Event) (next here : ℕ) (a : List Step) : Type 0 where
    run : IsRun g g.start (b ++ expand_along g next here a)
    count : ℕ
    names : names_of (made g g.start (b ++ expand_along g next here a)) ≡ numbered_names 0 count
    bound : count ≤ next + 64 * length a
    address : IsAddress (b ++ expand_along g next here a) (numbered_name here) a (numbered_name (number_along g next here a))

  -- one event: the instance is expanded by the step's production
  module _ (b : List Event) (next here m : ℕ) (s : Step) (st : IsNumbered b next here m) (in_range : s.production < length g.productions) (head : head_of g s.production ≡ m)
      (position : s.position < length (body_of g s.production)) (small : next + length (body_of g s.production) < 2 ^ 64) where
    abbrev size : ℕ
    size = length (body_of g s.production)

    abbrev new_names : List (List ℕ)
    new_names = numbered_names next size

    abbrev event : Event
    event = Expand (numbered_name here) s.production new_names

    is_new : (k : List ℕ) → IsIn k new_names → IsIn k (names_of (made g g.start b)) → ⊥
    is_new k i j =
        let x = name_from next size k i in
        let y = name_from 0 next k (subst (IsIn k) st.names j) in
        let lx : x.0 < next + size = x.2 in
        let ly : y.0 < 0 + next = y.2 in
        let lz : next ≤ x.0 = x.1 in
        let q : x.0 ≡ y.0 = name_same x.0 y.0 (omega arith) (omega arith) (sym x.3 ∙ y.3) in absurd (omega arith)

    can : CanExpand g g.start b (numbered_name here) s.production new_names
    can = record {
      in_range = in_range;
      stands = subst (λ z. IsIn (record { name = numbered_name here; module_no = z }) (made g g.start b)) (sym head) st.stands;
      open_end = st.shut;
      one_each = length-names next size;
      good = λ k i. let x = name_from next size k i in let lx : x.0 < next + size = x.2 in subst IsName (sym x.3) (name_good x.0 (omega arith)).0;
      differ = names_differ next size small;
      new = is_new;
    }

    child_at : IsAt (numbered_name (next + s.position)) s.position new_names
    child_at = name_at next size s.position position

    child_new : IsIn (numbered_name (next + s.position)) (names_of (made g g.start b)) → ⊥
    child_new = is_new (numbered_name (next + s.position)) (at_in (numbered_name (next + s.position)) s.position new_names child_at)

    names_after : names_of (made g g.start (b ++ event ∷ [])) ≡ numbered_names 0 (next + size)
    names_after =
        let zero_first : next ≡ 0 + next = omega arith in
        ap names_of (made_more g g.start b event) ∙ (map-append (λ (i : Instance). i.name) (made g g.start b) (named new_names (body_of g s.production)) ∙
        (ap (λ l. l ++ names_of (named new_names (body_of g s.production))) st.names ∙
        (ap (λ l. numbered_names 0 next ++ l) (names-named new_names (body_of g s.production) (length-names next size)) ∙
        (ap (λ k. numbered_names 0 next ++ numbered_names k size) zero_first ∙ names-append 0 next size))))

    told : expanded_by (b ++ event ∷ []) (numbered_name here) ≡ Some (record { production = s.production; names = new_names })
    told = expansion_later b (event ∷ []) (numbered_name here) st.shut ∙
        ap (λ t. cond {A = Option Expanded} t (Some (record { production = s.production; names = new_names })) None) (bytes_same (numbered_name here) (numbered_name here) refl)

    expanded_on : IsNumbered (b ++ event ∷ []) (next + size) (next + s.position) (target_of g s)
    expanded_on = record {
      run = extended g g.start b (event ∷ []) [] st.run (can, tt);
      names = names_after;
      below = omega (arith, position);
      stands = made_new g g.start b event (record { name = numbered_name (next + s.position); module_no = target_of g s })
          (named_at (numbered_name (next + s.position)) (target_of g s) s.position new_names (body_of g s.production) child_at (is_at s.position (body_of g s.production) 0 position));
      shut = expansion_other b (numbered_name here) s.production new_names (numbered_name (next + s.position))
          (λ q. child_new (subst (λ z. IsIn z (names_of (made g g.start b))) q (name_in (record { name = numbered_name here; module_no = m }) (made g g.start b) st.stands))) ∙
          unmade g g.start b st.run (numbered_name (next + s.position)) child_new;
    }

    -- and the rest of the steps
    goes_on : (a : List Step) → length (body_of g s.production) ≤ 64 → GoesAlong (b ++ event ∷ []) (next + size) (next + s.position) a → GoesAlong b next here (s ∷ a)
    goes_on a few rest =
        let same : (b ++ event ∷ []) ++ expand_along g (next + size) (next + s.position) a ≡ b ++ expand_along g next here (s ∷ a) = append_assoc b (event ∷ []) (expand_along g (next + size) (next + s.position) a) in
        let kept = expansion_kept (b ++ event ∷ []) (expand_along g (next + size) (next + s.position) a) (numbered_name here) (record { production = s.production; names = new_names }) told in
        let bound : rest.count ≤ next + size + 64 * length a = rest.bound in
        record {
          run = subst (IsRun g g.start) same rest.run;
          count = rest.count;
          names = ap (λ l. names_of (made g g.start l)) (sym same) ∙ rest.names;
          bound = omega arith;
          address = subst (λ l. IsAddress l (numbered_name here) (s ∷ a) (numbered_name (number_along g next here (s ∷ a)))) same (
            new_names,
            kept,
            subst (λ z. s.position < z) (sym (length-names next size)) position,
            subst (λ z. IsAddress ((b ++ event ∷ []) ++ expand_along g (next + size) (next + s.position) a) z a (numbered_name (number_along g next here (s ∷ a))))
                (sym (at_is (numbered_name (next + s.position)) s.position new_names [] child_at)) rest.address,
          );
        }

  goes_along : IsWellFormed g → (a : List Step) (b : List Event) (next here m : ℕ) → IsNumbered b next here m → IsRoute g m a → next + 64 * length a < 2 ^ 64 → GoesAlong b next here a
  goes_along wf [] b next here m st r h = record {
    run = subst (IsRun g g.start) (sym (append-nil b)) st.run;
    count = next;
    names = ap (λ l. names_of (made g g.start l)) (append-nil b) ∙ st.names;
    bound = omega arith;
    address = refl;
  }
  goes_along wf (s ∷ a) b next here m st r h =
      let few : length (body_of g s.production) ≤ 64 = wf.few_positions s.production r.0 in
      let small : next + length (body_of g s.production) < 2 ^ 64 = omega arith in
      goes_on b next here m s st r.0 r.1 r.2 small a few
      (goes_along wf a (b ++ event b next here m s st r.0 r.1 r.2 small ∷ []) (next + length (body_of g s.production)) (next + s.position) (target_of g s)
      (expanded_on b next here m s st r.0 r.1 r.2 small) r.3 (omega arith))

pub run_along_law : RunAlongLaw
run_along_law g wf limit a route few most =
    let start : IsNumbered g (Start (numbered_name 0) ∷ []) 1 0 g.start = record {
      run = ((refl, (name_good 0 (omega arith)).0), tt);
      names = refl;
      below = omega arith;
      stands = inl refl;
      shut = refl;
    } in
    let r = goes_along g wf a (Start (numbered_name 0) ∷ []) 1 0 g.start start route (omega arith) in
    let bound : r.count ≤ 1 + 64 * length a = r.bound in
    let size : length (made g g.start (run_along g a)) ≡ r.count =
    sym (length-map (made g g.start (run_along g a)) (λ (i : Instance). i.name)) ∙ (ap length r.names ∙ length-names 0 r.count) in
    let address : IsAddress (run_along g a) (numbered_name 0) a (name_along g a) = r.address in
    record {
      accepted = (
        r.run,
        omega arith,
        λ n h. let q = name_from 0 r.count n (subst (IsIn n) r.names h) in let l : q.0 < 0 + r.count = q.2 in subst (λ z. length z ≤ 64) (sym q.3) (name_good q.0 (omega arith)).1,
      );
      address = address;
      seen = λ u opened. (seen_law g u g.start (run_along g a) (record { name = name_along g a; module_no = module_along g g.start a }) r.run (λ q. (cc))).1
          (a, along_open g u (run_along g a) g.start a (numbered_name 0) (name_along g a) opened address, refl);
    }
