-- The twisting grammar, worked: its run is accepted and finished, and the links of one body and the dependencies of items are computed.
use Rattle.std.proofs.Common.{◌≡◌, ◌==◌, ℕ, List, [], ◌∷◌, Bool, true, false, Option, Some, None, codes, refl, ap, sym, true≢false, bytes_eq, arith}
use Rattle.std.proofs.lemmas.Bool.Decides.{nat_tests}
use Rattle.wf_model.proofs.Lists.{same_bytes}
use Rattle.wf_model.specs.declared.event.Event.{Event}
use Rattle.wf_model.specs.declared.event.Event.TheVariants.{Start, Expand}
use Rattle.wf_model.specs.Run.{IsAccepted}
use Rattle.wf_model.specs.Links.{Link, input, output, links, body_links}
use Rattle.wf_laws.specs.Examples.{into, out}
use Rattle.wf_laws.specs.TwistingGrammar.{twisting, whole_view, outer_view, events, straight, TwistingGrammarIsWorked}
use Rattle.wf_laws.proofs.Accepted.{none_taken, taken, finished}
use Rattle.wf_laws.proofs.Reached.{found, not_found}

-- the places of a body's ports: the head, or a position
abbrev same_place : Option ℕ → Option ℕ → Bool
same_place None None = true
same_place None (Some k) = false
same_place (Some j) None = false
same_place (Some j) (Some k) = j == k

place_same : (a b : Option ℕ) → same_place a b ≡ true → a ≡ b
place_same None None e = refl
place_same None (Some k) e = absurd (true≢false (sym e))
place_same (Some j) None e = absurd (true≢false (sym e))
place_same (Some j) (Some k) e = let q : j ≡ k = same j k e in ap Some q
  where
    same : (j k : ℕ) → (j == k) ≡ true → j ≡ k
    same j k e = grind (arith, nat_tests)

abbrev first : Event
first = Start (codes "r")

abbrev second : Event
second = Expand (codes "r") 0 (codes "l0" ∷ [])

abbrev third : Event
third = Expand (codes "l0") 1 (codes "w0" ∷ codes "l1" ∷ codes "v0" ∷ [])

abbrev fourth : Event
fourth = Expand (codes "l1") 1 (codes "w1" ∷ codes "l2" ∷ codes "v1" ∷ [])

abbrev fifth : Event
fifth = Expand (codes "l2") 1 (codes "w2" ∷ codes "l3" ∷ codes "v2" ∷ [])

abbrev sixth : Event
sixth = Expand (codes "l3") 2 (codes "t" ∷ [])

accepted : IsAccepted twisting 12 events
accepted =
    taken twisting 12 (first ∷ second ∷ third ∷ fourth ∷ fifth ∷ []) sixth
    (taken twisting 12 (first ∷ second ∷ third ∷ fourth ∷ []) fifth
    (taken twisting 12 (first ∷ second ∷ third ∷ []) fourth
    (taken twisting 12 (first ∷ second ∷ []) third
    (taken twisting 12 (first ∷ []) second
    (taken twisting 12 [] first (none_taken twisting 12) refl) refl) refl) refl) refl) refl

abbrev whole_links : List (Link (List ℕ))
whole_links = links twisting whole_view 0 events

pub twisting_grammar_is_worked : TwistingGrammarIsWorked
twisting_grammar_is_worked = record {
  accepted = accepted;
  expansion = record { run = accepted.0; started = λ e. absurd (cc); finished = finished twisting whole_view 0 events refl };
  l0_grafted = refl;
  body = refl;
  body_straight = found same_place place_same (body_links twisting straight 1) (input None 0) 4 (output None 0) refl;
  body_not_crossed = not_found same_place place_same (body_links twisting straight 1) (input None 0) 4 (output None 1) refl refl refl;
  items_are = refl;
  w0_y1_not_of_r_a1 = not_found bytes_eq same_bytes whole_links (into "r" 0) 16 (out "w0" 0) refl refl refl;
  w0_y2_of_r_a1 = found bytes_eq same_bytes whole_links (into "r" 0) 16 (out "w0" 1) refl;
  w1_y1_of_r_a1 = found bytes_eq same_bytes whole_links (into "r" 0) 16 (out "w1" 0) refl;
  w1_y2_not_of_r_a1 = not_found bytes_eq same_bytes whole_links (into "r" 0) 16 (out "w1" 1) refl refl refl;
  w1_y2_of_w0_y1 = found bytes_eq same_bytes whole_links (into "l1" 0) 16 (out "w1" 1) refl;
  w1_y1_not_of_w0_y1 = not_found bytes_eq same_bytes whole_links (into "l1" 0) 16 (out "w1" 0) refl refl refl;
  w2_y1_of_w0_y1 = found bytes_eq same_bytes whole_links (into "l1" 0) 16 (out "w2" 0) refl;
  l1_y1_of_w0_y1 = found bytes_eq same_bytes whole_links (into "l1" 0) 16 (out "l1" 0) refl;
  l1_y2_not_of_w0_y1 = not_found bytes_eq same_bytes whole_links (into "l1" 0) 16 (out "l1" 1) refl refl refl;
  l1_y1_of_w1_y2 = found bytes_eq same_bytes whole_links (into "l2" 1) 16 (out "l1" 0) refl;
  l1_y1_not_of_w1_y1 = not_found bytes_eq same_bytes whole_links (into "l2" 0) 16 (out "l1" 0) refl refl refl;
  l2_y1_not_of_l1_y1 = not_found bytes_eq same_bytes whole_links (into "v0" 0) 16 (out "l2" 0) refl refl refl;
  r_b1_of_r_a1 = found bytes_eq same_bytes whole_links (into "r" 0) 16 (out "r" 0) refl;
  r_b2_not_of_r_a1 = not_found bytes_eq same_bytes whole_links (into "r" 0) 16 (out "r" 1) refl refl refl;
  outer_seen = refl;
  r_b2_of_r_a1_outside = found bytes_eq same_bytes (links twisting outer_view 0 events) (into "r" 0) 3 (out "r" 1) refl;
  w0_y1_hidden = λ h. true≢false (sym h);
}
