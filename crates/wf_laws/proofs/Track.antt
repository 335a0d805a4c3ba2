-- The run of one instance follows the run that it is part of, event by event.
use Rattle.std.proofs.Common.{◌≡◌, ℕ, Bool, true, false, cond, ◌&&◌, List, [], ◌∷◌, ◌++◌, filter, bytes_eq, Option, Some, None, refl, sym, ap, ◌∙◌, subst, ⊎_elim, append_assoc, append-nil}
use Rattle.std.proofs.lemmas.Bool.{and_parts}
use Rattle.std.proofs.lemmas.List.Elements.{filter-append}
use Rattle.wf_model.specs.Lists.{IsIn, some}
use Rattle.wf_model.specs.Grammar.{Grammar, body_of}
use Rattle.wf_model.specs.View.{View, expands}
use Rattle.wf_model.specs.declared.event.Event.{Event}
use Rattle.wf_model.specs.declared.event.Event.TheVariants.{Start, Expand}
use Rattle.wf_model.specs.Run.{Instance, Expanded, named, made, names_of, expanded_by, CanExpand, AllExtend, opens, newly_seen, see_all, below, family}
use Rattle.wf_model.specs.SubRun.{is_among}
use Rattle.wf_model.proofs.Lists.{in_append_left, in_append_right, in_append_cases, same_bytes, among_gives, among_from, among_not, among-append_other, filter_same, filter_all, filter_none, some-filter}
use Rattle.wf_model.proofs.Runs.{named_names, expansion_along, expansion_other, name_in, name_from, made_kept, made_new, made_cases, name_kept, name_new, IsState, state_more}

-- After the events b the instances seen are s, and the family is f; the events of the family are c, and of it the instances t are seen.
pub record Tracks (g : Grammar) (u : View) (m k : ℕ) (b : List Event) (s : List Instance) (f : List (List ℕ)) (c : List Event) (t : List Instance) : Type 0 where
  pub seen : t ≡ filter (is_among f) s
  pub state : IsState g m b s
  pub family_made : (n : List ℕ) → IsIn n f → IsIn n (names_of (made g m b))
  pub within : (n : List ℕ) → IsIn n f → expanded_by c n ≡ expanded_by b n
  pub without : (n : List ℕ) → (IsIn n f → ⊥) → expanded_by c n ≡ None
  pub part : (i : Instance) → IsIn i (made g k c) → IsIn i (made g m b) × IsIn i.name f
  pub whole : (i : Instance) → IsIn i (made g m b) → IsIn i.name f → IsIn i (made g k c)
  pub begun : (n : List ℕ) × IsIn n f

module _ (g : Grammar) (u : View) (m k : ℕ) (b : List Event) (s : List Instance) (f : List (List ℕ)) (c : List Event) (t : List Instance) (tr : Tracks g u m k b s f c t) (i : List ℕ) (p : ℕ) (new : List (List ℕ)) (can : CanExpand g m b i p new) where
  -- the new names are not in the family, nor expanded
  new_apart : (n : List ℕ) → IsIn n new → IsIn n f → ⊥
  new_apart n h q = can.new n h (tr.family_made n q)

  new_shut : (n : List ℕ) → IsIn n new → expanded_by b n ≡ None
  new_shut n h = go (expanded_by b n) refl
    where
      go : (o : Option Expanded) → expanded_by b n ≡ o → expanded_by b n ≡ None
      go None e = e
      go (Some x) e = absurd (can.new n h (tr.state.expanded_made n x e))

  -- an event of the family
  part_can : IsIn i f → CanExpand g k c i p new
  part_can h = record {
    in_range = can.in_range;
    stands = tr.whole _ can.stands h;
    open_end = tr.within i h ∙ can.open_end;
    one_each = can.one_each;
    good = can.good;
    differ = can.differ;
    new = λ n q r. let e = name_from n (made g k c) r in can.new n q (subst (λ l. IsIn l (names_of (made g m b))) (sym e.2) (name_in e.0 _ (tr.part e.0 e.1).0));
  }

  same_opens : IsIn i f → opens u t i ≡ opens u s i
  same_opens h =
      ap (λ l. opens u l i) tr.seen ∙
      some-filter (λ (j : Instance). bytes_eq j.name i && expands u j.module_no) (is_among f) s
      (λ j e. let d : j.name ≡ i = same_bytes j.name i (and_parts (bytes_eq j.name i) (expands u j.module_no) e).0 in among_from j.name f (subst (λ l. IsIn l f) (sym d) h))

  inside_seen : IsIn i f → t ++ newly_seen g u k t (Expand i p new) ≡ filter (is_among (f ++ new)) (s ++ newly_seen g u m s (Expand i p new))
  inside_seen h =
      ap (λ o. t ++ cond o (named new (body_of g p)) []) (same_opens h) ∙
      (ap (λ l. l ++ cond (opens u s i) (named new (body_of g p)) []) (tr.seen ∙ first) ∙
      (ap (λ l. filter (is_among (f ++ new)) s ++ l) (second (opens u s i)) ∙
      sym (filter-append (is_among (f ++ new)) s (cond (opens u s i) (named new (body_of g p)) []))))
    where
      first : filter (is_among f) s ≡ filter (is_among (f ++ new)) s
      first = filter_same (is_among f) (is_among (f ++ new)) s (λ j q. sym (among-append_other j.name f new (λ r. can.new j.name r (name_in j _ (tr.state.seen_made j q)))))

      second : (o : Bool) → cond o (named new (body_of g p)) [] ≡ filter (is_among (f ++ new)) (cond o (named new (body_of g p)) [])
      second true = sym (filter_all (is_among (f ++ new)) (named new (body_of g p)) (λ j q. among_from j.name (f ++ new) (in_append_right j.name f new (named_names j new (body_of g p) q))))
      second false = refl

  inside_step : IsIn i f → Tracks g u m k (b ++ Expand i p new ∷ []) (s ++ newly_seen g u m s (Expand i p new)) (f ++ new) (c ++ Expand i p new ∷ []) (t ++ newly_seen g u k t (Expand i p new))
  inside_step h = record {
    seen = inside_seen h;
    state = state_more g u m b s (Expand i p new) tr.state can;
    family_made = λ n q. ⊎_elim (λ a. name_kept g m b (Expand i p new) n (tr.family_made n a)) (λ a. name_new g m b i p new n can.one_each a) (in_append_cases n f new q);
    within = λ n q. expansion_along c b (Expand i p new ∷ []) n
        (⊎_elim (λ a. tr.within n a) (λ a. tr.without n (new_apart n a) ∙ sym (new_shut n a)) (in_append_cases n f new q));
    without = λ n q. expansion_other c i p new n (λ e. q (in_append_left n f new (subst (λ l. IsIn l f) e h))) ∙ tr.without n (λ a. q (in_append_left n f new a));
    part = λ j q. ⊎_elim
        (λ a. let r = tr.part j a in (made_kept g m b (Expand i p new) j r.0, in_append_left j.name f new r.1))
        (λ a. (made_new g m b (Expand i p new) j a, in_append_right j.name f new (named_names j new (body_of g p) a)))
        (made_cases g k c (Expand i p new) j q);
    whole = λ j q r. ⊎_elim
        (λ a. made_kept g k c (Expand i p new) j (tr.whole j a (⊎_elim (λ d. d) (λ d. absurd (can.new j.name d (name_in j _ a))) (in_append_cases j.name f new r))))
        (λ a. made_new g k c (Expand i p new) j a)
        (made_cases g m b (Expand i p new) j q);
    begun = (tr.begun.0, in_append_left tr.begun.0 f new tr.begun.1);
  }

  -- an event of another instance
  outside_step : (IsIn i f → ⊥) → Tracks g u m k (b ++ Expand i p new ∷ []) (s ++ newly_seen g u m s (Expand i p new)) f c t
  outside_step h = record {
    seen = tr.seen ∙ sym (filter-append (is_among f) s (cond (opens u s i) (named new (body_of g p)) []) ∙ (ap (λ l. filter (is_among f) s ++ l) (none (opens u s i)) ∙ append-nil _));
    state = state_more g u m b s (Expand i p new) tr.state can;
    family_made = λ n q. name_kept g m b (Expand i p new) n (tr.family_made n q);
    within = λ n q. tr.within n q ∙ sym (expansion_other b i p new n (λ e. h (subst (λ l. IsIn l f) (sym e) q)));
    without = tr.without;
    part = λ j q. let r = tr.part j q in (made_kept g m b (Expand i p new) j r.0, r.1);
    whole = λ j q r. ⊎_elim (λ a. tr.whole j a r) (λ a. absurd (new_apart j.name (named_names j new (body_of g p) a) r)) (made_cases g m b (Expand i p new) j q);
    begun = tr.begun;
  }
    where
      not_among : (j : Instance) → IsIn j (named new (body_of g p)) → is_among f j ≡ false
      not_among j q = go (is_among f j) refl
        where
          go : (o : Bool) → is_among f j ≡ o → is_among f j ≡ false
          go true e = absurd (new_apart j.name (named_names j new (body_of g p) q) (among_gives j.name f e))
          go false e = e

      none : (o : Bool) → filter (is_among f) (cond o (named new (body_of g p)) []) ≡ []
      none true = filter_none (is_among f) (named new (body_of g p)) not_among
      none false = refl

-- what following the rest of a run comes to
pub record Followed (g : Grammar) (u : View) (m k : ℕ) (b : List Event) (s : List Instance) (f : List (List ℕ)) (c : List Event) (t : List Instance) (rest own : List Event) (f' : List (List ℕ)) : Type 0 where
  pub extend : AllExtend g k c own
  pub tracks : Tracks g u m k (b ++ rest) (see_all g u m s rest) f' (c ++ own) (see_all g u k t own)

pub track : (g : Grammar) (u : View) (m k : ℕ) (rest b : List Event) (s : List Instance) (f : List (List ℕ)) (c : List Event) (t : List Instance) → Tracks g u m k b s f c t → AllExtend g m b rest → Followed g u m k b s f c t rest (below f rest) (family f rest)
track g u m k [] b s f c t tr x =
    record { extend = tt; tracks = subst (λ l. Tracks g u m k l s f (c ++ []) t) (sym (append-nil b)) (subst (λ l. Tracks g u m k b s f l t) (sym (append-nil c)) tr) }
track g u m k (Start r ∷ rest) b s f c t tr x =
    absurd (let h = tr.family_made tr.begun.0 tr.begun.1 in subst (λ l. IsIn tr.begun.0 (names_of (made g m l))) x.0.0 h)
track g u m k (Expand i p new ∷ rest) b s f c t tr x = go (track g u m k rest) (some (bytes_eq i) f) refl
  where
    go : ((b : List Event) (s : List Instance) (f : List (List ℕ)) (c : List Event) (t : List Instance) → Tracks g u m k b s f c t → AllExtend g m b rest → Followed g u m k b s f c t rest (below f rest) (family f rest)) →
        (q : Bool) → some (bytes_eq i) f ≡ q →
        Followed g u m k b s f c t (Expand i p new ∷ rest) (cond q (Expand i p new ∷ []) [] ++ below (cond q (f ++ new) f) rest) (family (cond q (f ++ new) f) rest)
    go ih true q =
        let h = among_gives i f q in
        let r = ih (b ++ Expand i p new ∷ []) (s ++ newly_seen g u m s (Expand i p new)) (f ++ new) (c ++ Expand i p new ∷ []) (t ++ newly_seen g u k t (Expand i p new)) (inside_step g u m k b s f c t tr i p new x.0 h) x.1 in
        record {
          extend = (part_can g u m k b s f c t tr i p new x.0 h, r.extend);
          tracks =
              subst (λ l. Tracks g u m k l (see_all g u m (s ++ newly_seen g u m s (Expand i p new)) rest) (family (f ++ new) rest) (c ++ Expand i p new ∷ below (f ++ new) rest) (see_all g u k (t ++ newly_seen g u k t (Expand i p new)) (below (f ++ new) rest))) (append_assoc b (Expand i p new ∷ []) rest)
              (subst (λ l. Tracks g u m k ((b ++ Expand i p new ∷ []) ++ rest) (see_all g u m (s ++ newly_seen g u m s (Expand i p new)) rest) (family (f ++ new) rest) l (see_all g u k (t ++ newly_seen g u k t (Expand i p new)) (below (f ++ new) rest))) (append_assoc c (Expand i p new ∷ []) (below (f ++ new) rest)) r.tracks);
        }
    go ih false q =
        let r = ih (b ++ Expand i p new ∷ []) (s ++ newly_seen g u m s (Expand i p new)) f c t (outside_step g u m k b s f c t tr i p new x.0 (among_not i f q)) x.1 in
        record {
          extend = r.extend;
          tracks = subst (λ l. Tracks g u m k l (see_all g u m (s ++ newly_seen g u m s (Expand i p new)) rest) (family f rest) (c ++ below f rest) (see_all g u k t (below f rest))) (append_assoc b (Expand i p new ∷ []) rest) r.tracks;
        }
