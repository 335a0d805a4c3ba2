-- What is there in a run stays as it was in each run that goes on from it.
use Rattle.std.proofs.Common.{◌≡◌, ℕ, ◌↔◌, ◌&&◌, IsTrue, List, [], ◌∷◌, ◌++◌, bytes_eq, Option, Some, None, refl, sym, subst, ⊎_elim}
use Rattle.std.proofs.lemmas.Bool.{and_parts}
use Rattle.std.proofs.lemmas.List.Concat.{flat_map-append}
use Rattle.wf_model.specs.Lists.{IsIn}
use Rattle.wf_model.specs.Grammar.{Grammar, body_of}
use Rattle.wf_model.specs.View.{View, expands}
use Rattle.wf_model.specs.declared.event.Event.{Event}
use Rattle.wf_model.specs.declared.event.Event.TheVariants.{Start, Expand}
use Rattle.wf_model.specs.Run.{Instance, made, names_of, Extends, AllExtend, IsRun, opens, newly_seen, see_all, seen_in}
use Rattle.wf_model.specs.Items.{Item, items_by, items, IsVisible, IsMadeOpen}
use Rattle.wf_model.proofs.Lists.{in_append_left, in_append_cases, some_from, some_gives, same_bytes}
use Rattle.wf_model.proofs.Runs.{made-append, named_names, name_in, name_kept, see_all-append, AllExtend-append, expansion_kept, newly-made}
use Rattle.wf_model.proofs.Open.{maker_made}
use Rattle.wf_laws.specs.Grown.{GrownLaw}
use Rattle.wf_laws.proofs.Root.{seen_kept}

module _ (g : Grammar) (u : View) (m : ℕ) where
  -- what comes into sight has a new name
  newly_new : (b : List Event) (s : List Instance) (e : Event) → Extends g m b e → (j : Instance) → IsIn j (newly_seen g u m s e) → IsIn j.name (names_of (made g m b)) → ⊥
  newly_new b s (Start r) x j h k = subst (λ l. IsIn j.name (names_of (made g m l))) x.0 k
  newly_new b s (Expand i p names) can j h k = can.new j.name (named_names j names (body_of g p) (newly-made g u m s (Expand i p names) j h)) k

  -- an instance that stood before is seen after further events only if it was seen
  seen_before : (b : List Event) (s : List Instance) (a : List Event) → AllExtend g m b a → (j : Instance) → IsIn j.name (names_of (made g m b)) → IsIn j (see_all g u m s a) → IsIn j s
  seen_before b s [] x j k h = h
  seen_before b s (e ∷ a) x j k h =
      ⊎_elim (λ q. q) (λ q. absurd (newly_new b s e x.0 j q k))
      (in_append_cases j s (newly_seen g u m s e) (seen_before (b ++ e ∷ []) (s ++ newly_seen g u m s e) a x.1 j (name_kept g m b e j.name k) h))

  module _ (events more : List Event) (run : IsRun g m (events ++ more)) where
    extend : AllExtend g m events more
    extend = (AllExtend-append g m [] events more run).1

    seen_is : seen_in g u m (events ++ more) ≡ see_all g u m (seen_in g u m events) more
    seen_is = see_all-append g u m [] events more

    seen_same : (j : Instance) → IsIn j.name (names_of (made g m events)) → IsIn j (seen_in g u m (events ++ more)) ↔ IsIn j (seen_in g u m events)
    seen_same j k = (
      (λ h. seen_before events (seen_in g u m events) more extend j k (subst (IsIn j) seen_is h)),
      (λ h. subst (IsIn j) (sym seen_is) (seen_kept g u m j (seen_in g u m events) more h)),
    )

    opens_same : (n : List ℕ) → IsIn n (names_of (made g m events)) → IsTrue (opens u (seen_in g u m (events ++ more)) n) ↔ IsTrue (opens u (seen_in g u m events) n)
    opens_same n k = (
      (λ h. let r = some_gives (λ (z : Instance). bytes_eq z.name n && expands u z.module_no) (seen_in g u m (events ++ more)) h in
          let same = same_bytes r.0.name n (and_parts (bytes_eq r.0.name n) (expands u r.0.module_no) r.2).0 in
          some_from (λ (z : Instance). bytes_eq z.name n && expands u z.module_no) r.0 (seen_in g u m events) ((seen_same r.0 (subst (λ z. IsIn z (names_of (made g m events))) (sym same) k)).0 r.1) r.2),
      (λ h. let r = some_gives (λ (z : Instance). bytes_eq z.name n && expands u z.module_no) (seen_in g u m events) h in
          let same = same_bytes r.0.name n (and_parts (bytes_eq r.0.name n) (expands u r.0.module_no) r.2).0 in
          some_from (λ (z : Instance). bytes_eq z.name n && expands u z.module_no) r.0 (seen_in g u m (events ++ more)) ((seen_same r.0 (subst (λ z. IsIn z (names_of (made g m events))) (sym same) k)).1 r.1) r.2),
    )

    visible_same : (t : Item) → IsIn t (items g m events) → IsVisible g u m (events ++ more) t ↔ IsVisible g u m events t
    visible_same t h = go (t.maker) (maker_made g m events t (AllExtend-append g m [] events more run).0 h)
      where
        go : (o : Option (List ℕ)) → ((n : List ℕ) → o ≡ Some n → IsIn n (names_of (made g m events))) → IsMadeOpen g u m (events ++ more) o ↔ IsMadeOpen g u m events o
        go None k = ((λ v. v), (λ v. v))
        go (Some n) k = opens_same n (k n refl)

pub grown_law : GrownLaw
grown_law g u m events more run = record {
  instances = λ i h. subst (IsIn i) (sym (made-append g m events more)) (in_append_left i (made g m events) (made g m more) h);
  seen = λ i h. seen_same g u m events more run i (name_in i (made g m events) h);
  expanded = λ n x h. expansion_kept events more n x h;
  items_kept = λ t h. subst (IsIn t) (sym (flat_map-append (items_by g m) events more)) (in_append_left t (items g m events) (items g m more) h);
  visible = λ t h. visible_same g u m events more run t h;
}
