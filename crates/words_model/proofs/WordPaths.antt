-- A path has a word, and a path with a word is one.
use Rattle.std.proofs.Common.{◌⊎◌, ℕ, List, [], ◌∷◌, sym, ◌∙◌, subst, inl, inr, ⊎_elim, true≢false}
use Rattle.wf_model.specs.Lists.{IsIn, here, onward}
use Rattle.wf_model.specs.Grammar.{Grammar}
use Rattle.wf_model.specs.View.{View}
use Rattle.wf_model.specs.declared.event.Event.{Event}
use Rattle.wf_model.specs.Run.{Instance}
use Rattle.wf_model.specs.Links.{Port, pair_links, links, perceived, IsLinked, Path}
use Rattle.wf_model.proofs.Level.{pair_links_from, pair_links_in}
use Rattle.chain_model.proofs.OpenLinks.{link_cases, open_linked, unopened_linked}
use Rattle.words_model.specs.Words.{IsWire, IsPairOf, WordPath, stay, by_wire, by_pair}
use Rattle.words_model.specs.Laws.{WordLaw}
use Rattle.words_model.proofs.LiftedPairs.{perceived_shown}

module _ (g : Grammar) (u : View) (m : ℕ) (events : List Event) where
  -- a link is a wire, or a perceived pair of a seen instance
  pub wire_or_pair : (x y : Port (List ℕ)) → IsLinked (links g u m events) x y → IsWire g u m events x y ⊎ ((n : Instance) × IsPairOf g u m events n x y)
  wire_or_pair x y h =
      ⊎_elim (λ w. inl w)
      (λ w. inr (w.owner, (w.seen, subst (λ z. IsIn z (pair_links g (perceived u) w.owner.module_no w.owner.name)) (sym w.is) (pair_links_in g (perceived u) w.owner.module_no w.owner.name w.i w.o w.input_there w.output_there w.pair))))
      (link_cases g u m events (perceived u) x y h)

  pub wire_linked : (x y : Port (List ℕ)) → IsWire g u m events x y → IsLinked (links g u m events) x y
  wire_linked x y w = open_linked g u m events (perceived u) x y w

  pub pair_linked : (n : Instance) (x y : Port (List ℕ)) → IsPairOf g u m events n x y → IsLinked (links g u m events) x y
  pair_linked n x y h =
      let w = pair_links_from g (perceived u) n.module_no n.name (record { from = x; to = y }) h.1 in
      let shut = (perceived_shown u n.module_no w.0 w.1 w.4).0 in
      unopened_linked g u m events (perceived u) x y (record { owner = n; seen = h.0; not_open = λ q. true≢false (sym q.1 ∙ shut); i = w.0; o = w.1; input_there = w.2; output_there = w.3; pair = w.4; is = w.5 })

pub word_law : WordLaw
word_law g u m events x y = (there, λ q. back q.1)
  where
    there : {x y : Port (List ℕ)} → Path (links g u m events) x y → (word : List ℕ) × WordPath g u m events x y word
    there here = ([], stay)
    there (onward {x = x} {y = y} l w) =
        let r = there w in
        ⊎_elim (λ a. (r.0, by_wire a r.1)) (λ a. (a.0.module_no ∷ r.0, by_pair a.0 a.1 r.1)) (wire_or_pair g u m events x y l)

    back : {x y : Port (List ℕ)} {word : List ℕ} → WordPath g u m events x y word → Path (links g u m events) x y
    back stay = here
    back (by_wire {x = x} {y = y} l w) = onward (wire_linked g u m events x y l) (back w)
    back (by_pair {x = x} {y = y} n l w) = onward (pair_linked g u m events n x y l) (back w)
