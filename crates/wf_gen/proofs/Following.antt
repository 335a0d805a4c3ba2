-- Generated events are a run, and what is pending after them is what they do not expand.
use Rattle.std.proofs.Common.{◌≡◌, ℕ, zero, suc, ◌+◌, ◌<◌, ◌≤◌, ◌^◌, true, cond, List, [], ◌∷◌, ◌++◌, map, length, Option, Some, None, swap_remove, refl, sym, ap, ◌∙◌, subst, inl, ⊎_elim, arith}
use Rattle.std.proofs.lemmas.Bool.{cases_lt}
use Rattle.std.proofs.lemmas.Nat.{mod_below}
use Rattle.std.proofs.lemmas.List.{map-append}
use Rattle.std.proofs.lemmas.List.Sums.{sum_by-append}
use Rattle.rand_pcg.specs.Lcg.{Lcg}
use Rattle.wf_model.specs.Lists.{IsIn, IsAt}
use Rattle.wf_model.specs.Grammar.{Grammar, head_of, body_of, IsComposite}
use Rattle.wf_model.specs.WellFormed.{IsWellFormed}
use Rattle.wf_model.specs.Composite.{is_composite}
use Rattle.wf_model.specs.declared.event.Event.{Event}
use Rattle.wf_model.specs.declared.event.Event.TheVariants.{Start, Expand}
use Rattle.wf_model.specs.Run.{Instance, Expanded, IsName, named, made, names_of, expanded_by, CanExpand, IsRun}
use Rattle.wf_model.proofs.Lists.{in_append_left, in_append_right, in_append_cases, in_map, in_map_from, at_in, at_is, at_below, is_at, bytes_same}
use Rattle.wf_model.proofs.Composites.{composite_gives, composite_is}
use Rattle.wf_model.proofs.Runs.{made_more, names-named, expansion_kept, expansion_later, expansion_other, name_in, made_kept, made_new, made_cases, named_at, at_named}
use Rattle.wf_model.proofs.Taking.{extended}
use Rattle.wf_laws.proofs.Routes.{unmade}
use Rattle.wf_gen.specs.Draws.{draw, drawn}
use Rattle.numbered_names.specs.Names.{numbered_name, numbered_names}
use Rattle.wf_gen.specs.Turns.{Pending, State, no_pending, pending_from, place_picked, instance_picked, stays_on_cycle, child_count, next_turn, draws_after, after_turn, after_draws, first_state}
use Rattle.wf_gen.specs.Laws.{instance_of, IsUnexpanded}
use Rattle.numbered_names.proofs.Numbered.{name_same, name_good, name_from, length-names, names-append, name_at, names_differ}
use Rattle.wf_gen.proofs.Lists.{taken_or_left, left_in}
use Rattle.wf_gen.proofs.Children.{has_number, times, times_past, child_from, child_in, children_once, taken_gone, left_once}
use Rattle.wf_gen.proofs.Choices.{production_fits}

-- The events so far are a run that ends in this state: names are counted from 0, each number is pending once at most, and pending is what is of a composite module and not expanded
pub record Follows (g : Grammar) (limit : ℕ) (b : List Event) (s : State) : Type 0 where
  pub run : IsRun g g.start b
  pub names : names_of (made g g.start b) ≡ numbered_names 0 s.made
  pub within : s.made ≤ limit
  pub below : (p : Pending) → IsIn p s.pending → p.number < s.made
  pub once : (n : ℕ) → times n s.pending ≤ 1
  pub waits : (p : Pending) → IsIn p s.pending → IsUnexpanded g b (instance_of p)
  pub all : (i : Instance) → IsUnexpanded g b i → IsIn i (map instance_of s.pending)

-- the draws do not matter
pub with_draws : (g : Grammar) (limit : ℕ) (b : List Event) (s : State) → Follows g limit b s → Follows g limit b (after_draws s)
with_draws g limit b s f = record { run = f.run; names = f.names; within = f.within; below = f.below; once = f.once; waits = f.waits; all = f.all }

-- an expansion that is not there after an event was not there before it
open_before : (b : List Event) (e : Event) (n : List ℕ) → expanded_by (b ++ e ∷ []) n ≡ None → expanded_by b n ≡ None
open_before b e n h = go (expanded_by b n) refl
  where
    go : (o : Option Expanded) → expanded_by b n ≡ o → expanded_by b n ≡ None
    go None q = q
    go (Some x) q = let z : Some x ≡ None = sym (expansion_kept b (e ∷ []) n x q) ∙ h in absurd (cc)

module _ (g : Grammar) (limit : ℕ) (formed : IsWellFormed g) (small : limit < 2 ^ 64) where
  pub first_follows : (draws : Lcg) → 0 < limit → Follows g limit (Start (numbered_name 0) ∷ []) (first_state g draws)
  first_follows draws room = record {
    run = ((refl, (name_good 0 (omega arith)).0), tt);
    names = refl;
    within = omega arith;
    below = λ p h. let r = child_from g 0 (g.start ∷ []) p h in let n : p.number ≡ 0 + r.0 = r.2 in let z = at_first r.0 p.module_no r.1 in omega arith;
    once = λ n. (children_once g 0 (g.start ∷ []) n).once;
    waits = λ p h. let r = child_from g 0 (g.start ∷ []) p h in let z = at_first r.0 p.module_no r.1 in let a : p.number ≡ 0 + r.0 = r.2 in let b : r.0 ≡ 0 = z.0 in let n : p.number ≡ 0 = omega arith in
        (inl (λ i. record { name = numbered_name (n i); module_no = z.1 i }), composite_gives g p.module_no r.3, refl);
    all = λ i u. ⊎_elim (λ e. only i u.1 e) (λ z. absurd z) u.0;
  }
    where
      at_first : (j m : ℕ) → IsAt m j (g.start ∷ []) → (j ≡ 0) × (m ≡ g.start)
      at_first zero m h = (refl, h)
      at_first (suc j) m h = absurd h

      only : (i : Instance) → IsComposite g i.module_no → i ≡ record { name = numbered_name 0; module_no = g.start } → IsIn i (map instance_of (pending_from g 0 (g.start ∷ [])))
      only i c e =
          let t : is_composite g g.start ≡ true = composite_is g g.start (subst (λ (j : Instance). IsComposite g j.module_no) e c) in
          subst (λ j. IsIn j (map instance_of (pending_from g 0 (g.start ∷ [])))) (sym e) (in_map instance_of (record { number = 0; module_no = g.start }) (pending_from g 0 (g.start ∷ [])) (child_in g 0 (g.start ∷ []) g.start 0 refl t))

  module _ (b : List Event) (s : State) (f : Follows g limit b s) (some : 0 < length s.pending) (within : s.made + child_count g (next_turn g s) ≤ limit) where
    abbrev place : ℕ
    place = place_picked s.pending (draw s.draws)

    -- the instance that is expanded
    abbrev taken : Pending
    taken = instance_picked s.pending (draw s.draws)

    abbrev name : List ℕ
    name = numbered_name taken.number

    abbrev production : ℕ
    production = (next_turn g s).production

    abbrev body : List ℕ
    body = body_of g production

    -- the names of the children
    abbrev new : List (List ℕ)
    new = numbered_names s.made (length body)

    abbrev event : Event
    event = Expand name production new

    abbrev left : List Pending
    left = swap_remove s.pending place no_pending

    abbrev after : State
    after = after_turn g s (next_turn g s) (draws_after s)

    there : place < length s.pending
    there = mod_below (draw s.draws) (length s.pending) some

    taken_in : IsIn taken s.pending
    taken_in = at_in taken place s.pending (is_at place s.pending no_pending there)

    waited : IsUnexpanded g b (instance_of taken)
    waited = f.waits taken taken_in

    fits : (production < length g.productions) × (head_of g production ≡ taken.module_no)
    fits = production_fits g taken.module_no (stays_on_cycle s.pending (draw (drawn s.draws))) (draw (drawn s.draws)) waited.1

    -- the names are new
    fresh : (n : List ℕ) → IsIn n new → IsIn n (names_of (made g g.start b)) → ⊥
    fresh n i j =
        let x = name_from s.made (length body) n i in
        let y = name_from 0 s.made n (subst (λ l. IsIn n l) f.names j) in
        let lx : x.0 < s.made + length body = x.2 in
        let ly : y.0 < 0 + s.made = y.2 in
        let lz : s.made ≤ x.0 = x.1 in
        let lw : s.made + length body ≤ limit = within in
        let q : x.0 ≡ y.0 = name_same x.0 y.0 (omega arith) (omega arith) (sym x.3 ∙ y.3) in absurd (omega arith)

    one_each : length new ≡ length body
    one_each = length-names s.made (length body)

    can : CanExpand g g.start b name production new
    can = record {
      in_range = fits.0;
      stands = subst (λ m. IsIn (record { name = name; module_no = m }) (made g g.start b)) (sym fits.1) waited.0;
      open_end = waited.2;
      one_each = one_each;
      good = λ n i. let x = name_from s.made (length body) n i in let lx : x.0 < s.made + length body = x.2 in let lw : s.made + length body ≤ limit = within in subst IsName (sym x.3) (name_good x.0 (omega arith)).0;
      differ = (let lw : s.made + length body ≤ limit = within in names_differ s.made (length body) (omega arith));
      new = fresh;
    }

    run_after : IsRun g g.start (b ++ event ∷ [])
    run_after = extended g g.start [] b event f.run can

    names_after : names_of (made g g.start (b ++ event ∷ [])) ≡ numbered_names 0 (s.made + length body)
    names_after =
        ap names_of (made_more g g.start b event) ∙ (map-append (λ (i : Instance). i.name) (made g g.start b) (named new body) ∙
        (ap (λ l. l ++ names_of (named new body)) f.names ∙ (ap (λ l. numbered_names 0 s.made ++ l) (names-named new body one_each) ∙ joined)))
      where
        joined : numbered_names 0 s.made ++ numbered_names s.made (length body) ≡ numbered_names 0 (s.made + length body)
        joined = let e : s.made ≡ 0 + s.made = omega arith in ap (λ k. numbered_names 0 s.made ++ numbered_names k (length body)) e ∙ names-append 0 s.made (length body)

    -- an instance that is not expanded is still not, unless it is the one of the turn
    still_open : (n : List ℕ) → expanded_by b n ≡ None → (name ≡ n → ⊥) → expanded_by (b ++ event ∷ []) n ≡ None
    still_open n o other = expansion_other b name production new n other ∙ o

    now_expanded : expanded_by (b ++ event ∷ []) name ≡ None → ⊥
    now_expanded h =
        let t : expanded_by (b ++ event ∷ []) name ≡ Some (record { production = production; names = new }) =
        expansion_later b (event ∷ []) name waited.2 ∙ ap (λ t. cond {A = Option Expanded} t (Some (record { production = production; names = new })) None) (bytes_same name name refl) in
        let z : ◌≡◌ {A = Option Expanded} (Some (record { production = production; names = new })) None = sym t ∙ h in absurd (cc)

    left_waits : (p : Pending) → IsIn p left → IsUnexpanded g (b ++ event ∷ []) (instance_of p)
    left_waits p h =
        let i = left_in s.pending place no_pending p there h in
        let w = f.waits p i in
        let other = taken_gone s.pending place no_pending p there (f.once taken.number) h in
        let lp : p.number < s.made = f.below p i in
        let lt : taken.number < s.made = f.below taken taken_in in
        let lm : s.made ≤ limit = f.within in
        (made_kept g g.start b event (instance_of p) w.0, w.1, still_open (numbered_name p.number) w.2 (λ e. other (sym (name_same taken.number p.number (omega arith) (omega arith) e))))

    child_waits : (p : Pending) → IsIn p (pending_from g s.made body) → IsUnexpanded g (b ++ event ∷ []) (instance_of p)
    child_waits p h =
        let r = child_from g s.made body p h in
        let k = s.made + r.0 in
        let at : IsAt (numbered_name (s.made + r.0)) r.0 new = name_at s.made (length body) r.0 (at_below p.module_no r.0 body r.1) in
        let is_new : IsIn (numbered_name (s.made + r.0)) new = at_in (numbered_name (s.made + r.0)) r.0 new at in
        let other : name ≡ numbered_name (s.made + r.0) → ⊥ = λ e. fresh (numbered_name (s.made + r.0)) is_new (subst (λ n. IsIn n (names_of (made g g.start b))) e (name_in (instance_of taken) (made g g.start b) waited.0)) in
        subst (λ n. IsUnexpanded g (b ++ event ∷ []) (record { name = numbered_name n; module_no = p.module_no })) (sym r.2) (
          made_new g g.start b event (record { name = numbered_name (s.made + r.0); module_no = p.module_no }) (named_at (numbered_name (s.made + r.0)) p.module_no r.0 new body at r.1),
          composite_gives g p.module_no r.3,
          still_open (numbered_name (s.made + r.0)) (unmade g g.start b f.run (numbered_name (s.made + r.0)) (fresh (numbered_name (s.made + r.0)) is_new)) other,
        )

    -- what is not expanded after the event is left, or is a child
    old_waits : (i : Instance) → IsUnexpanded g (b ++ event ∷ []) i → IsIn i (made g g.start b) → IsIn i (map instance_of after.pending)
    old_waits i u h =
        let o = open_before b event i.name u.2 in
        let r = in_map_from instance_of i s.pending (f.all i (h, u.1, o)) in
        let c = taken_or_left s.pending place no_pending r.0 there r.1 in
        ⊎_elim
        (λ (e : r.0 ≡ taken). absurd (now_expanded (subst (λ n. expanded_by (b ++ event ∷ []) n ≡ None) (ap (λ (j : Instance). j.name) (r.2 ∙ ap instance_of e)) u.2)))
        (λ l. subst (λ j. IsIn j (map instance_of after.pending)) (sym r.2) (in_map instance_of r.0 after.pending (in_append_left r.0 left (pending_from g s.made body) l)))
        c

    child_is_pending : (i : Instance) → IsComposite g i.module_no → IsIn i (named new body) → IsIn i (map instance_of after.pending)
    child_is_pending i c h =
        let r = at_named i new body h in
        let e : i.name ≡ numbered_name (s.made + r.0) =
        sym (at_is i.name r.0 new [] r.1) ∙ at_is (numbered_name (s.made + r.0)) r.0 new [] (name_at s.made (length body) r.0 (at_below i.module_no r.0 body r.2)) in
        let p = child_in g s.made body i.module_no r.0 r.2 (composite_is g i.module_no c) in
        subst (λ n. IsIn (record { name = n; module_no = i.module_no }) (map instance_of after.pending)) (sym e)
        (in_map instance_of (record { number = s.made + r.0; module_no = i.module_no }) after.pending (in_append_right (record { number = s.made + r.0; module_no = i.module_no }) left (pending_from g s.made body) p))

    child_number : (p : Pending) → IsIn p (pending_from g s.made body) → p.number < s.made + length body
    child_number p h = let r = child_from g s.made body p h in let e : p.number ≡ s.made + r.0 = r.2 in let l : r.0 < length body = at_below p.module_no r.0 body r.1 in omega arith

    once_after : (n : ℕ) → times n after.pending ≤ 1
    once_after n =
        let sum : times n after.pending ≡ times n left + times n (pending_from g s.made body) = sum_by-append (has_number n) left (pending_from g s.made body) in
        let l : times n left ≤ times n s.pending = left_once n s.pending place no_pending there in
        let c = children_once g s.made body n in
        ⊎_elim
        (λ (h : n < s.made). let z : times n (pending_from g s.made body) ≡ 0 = c.below h in let o : times n s.pending ≤ 1 = f.once n in omega (arith, sum, l, z, o))
        (λ (h : s.made ≤ n). let z : times n s.pending ≡ 0 = times_past n s.pending (λ p i. let q : p.number < s.made = f.below p i in omega arith) in let o : times n (pending_from g s.made body) ≤ 1 = c.once in omega (arith, sum, l, z, o))
        (cases_lt n s.made)

    pub turn_follows : Follows g limit (b ++ event ∷ []) after
    turn_follows = record {
      run = run_after;
      names = names_after;
      within = within;
      below = λ p h. ⊎_elim
          (λ l. let q : p.number < s.made = f.below p (left_in s.pending place no_pending p there l) in omega arith)
          (λ c. child_number p c)
          (in_append_cases p left (pending_from g s.made body) h);
      once = once_after;
      waits = λ p h. ⊎_elim (λ l. left_waits p l) (λ c. child_waits p c) (in_append_cases p left (pending_from g s.made body) h);
      all = λ i u. ⊎_elim (λ h. old_waits i u h) (λ h. child_is_pending i u.1 h) (made_cases g g.start b event i u.0);
    }
