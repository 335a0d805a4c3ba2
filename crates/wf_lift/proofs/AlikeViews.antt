-- Two views that perceive the same see the same modules and instances, and join the same ports.
use Rattle.std.proofs.Common.{◌≡◌, ◌&&◌, ℕ, Bool, false, cond, List, [], ◌∷◌, ◌++◌, flat_map, bytes_eq, refl, sym, ap, ◌∙◌, subst}
use Rattle.wf_model.specs.Lists.{IsIn, some}
use Rattle.wf_model.specs.Grammar.{Grammar, Assignment, head_of, body_of}
use Rattle.wf_model.specs.View.{View, expands, shows, IsSeenModule, at_start, in_body}
use Rattle.wf_model.specs.declared.event.Event.{Event}
use Rattle.wf_model.specs.declared.event.Event.TheVariants.{Start, Expand}
use Rattle.wf_model.specs.Run.{Instance, named, expanded_by, opens, newly_seen, see_all, seen_in, IsPending, IsFinished, root_of}
use Rattle.wf_model.specs.Links.{Link, Path, input, output, pair_links, opened_links, links_of, perceived, links}
use Rattle.wf_model.specs.Safe.{IsExpansion, Joins}
use Rattle.wf_lift.specs.Alike.{PerceiveAlike}

pub alike_back : (u w : View) → PerceiveAlike u w → PerceiveAlike w u
alike_back u w alike = record { expanded = λ m. sym (alike.expanded m); perceived = λ m i o. sym (alike.perceived m i o) }

module _ (g : Grammar) (u w : View) (alike : PerceiveAlike u w) where
  pub seen_module_there : {m : ℕ} → IsSeenModule g u m → IsSeenModule g w m
  seen_module_there (at_start e) = at_start e
  seen_module_there (in_body p l s x i) = in_body p l (seen_module_there s) (sym (alike.expanded (head_of g p)) ∙ x) i

  -- what is shown of a module that is not expanded
  pub shown_same : (m i o : ℕ) → expands w m ≡ false → shows u m i o ≡ shows w m i o
  shown_same m i o e =
      sym (ap (λ (b : Bool). cond b false (shows u m i o)) (alike.expanded m ∙ e))
      ∙ (alike.perceived m i o ∙ ap (λ (b : Bool). cond b false (shows w m i o)) e)

  opens_same : (seen : List Instance) (n : List ℕ) → opens u seen n ≡ opens w seen n
  opens_same seen n = λ t. some (λ (i : Instance). bytes_eq i.name n && alike.expanded i.module_no t) seen

  newly_same : (m : ℕ) (seen : List Instance) (e : Event) → newly_seen g u m seen e ≡ newly_seen g w m seen e
  newly_same m seen (Start r) = refl
  newly_same m seen (Expand i p names) = ap (λ (b : Bool). cond b (named names (body_of g p)) []) (opens_same seen i)

  see_same : (m : ℕ) (seen : List Instance) (events : List Event) → see_all g u m seen events ≡ see_all g w m seen events
  see_same m seen [] = refl
  see_same m seen (e ∷ events) = ap (λ l. see_all g u m (seen ++ l) events) (newly_same m seen e) ∙ see_same m (seen ++ newly_seen g w m seen e) events

  pub seen_same : (m : ℕ) (events : List Event) → seen_in g u m events ≡ seen_in g w m events
  seen_same m events = see_same m [] events

  perceived_same : perceived u ≡ perceived w
  perceived_same = λ t m i o. alike.perceived m i o t

  opened_same : (d : Assignment) (events : List Event) → links_of g u d events ≡ links_of g w d events
  opened_same d events = λ t i. cond (alike.expanded i.module_no t) (opened_links g d i (expanded_by events i.name)) (pair_links g d i.module_no i.name)

  pub links_same : (m : ℕ) (events : List Event) → links g u m events ≡ links g w m events
  links_same m events =
      (λ t. flat_map (links_of g u (perceived_same t) events) (seen_same m events t)) ∙
      ap (λ (f : Instance → List (Link (List ℕ))). flat_map f (seen_in g w m events)) (opened_same (perceived w) events)

  pub joins_there : (m : ℕ) (events : List Event) (i o : ℕ) → Joins g u m events i o → Joins g w m events i o
  joins_there m events i o h = subst (λ (ls : List (Link (List ℕ))). Path ls (input (root_of events) i) (output (root_of events) o)) (links_same m events) h

  pending_back : (m : ℕ) (events : List Event) (i : Instance) → IsPending g w m events i → IsPending g u m events i
  pending_back m events i q = (subst (IsIn i) (sym (seen_same m events)) q.0, alike.expanded i.module_no ∙ q.1, q.2)

  pub finished_there : (m : ℕ) (events : List Event) → IsFinished g u m events → IsFinished g w m events
  finished_there m events f i q = f i (pending_back m events i q)

  pub expansion_there : (m : ℕ) (events : List Event) → IsExpansion g u m events → IsExpansion g w m events
  expansion_there m events x = record { run = x.run; started = x.started; finished = finished_there m events x.finished }
