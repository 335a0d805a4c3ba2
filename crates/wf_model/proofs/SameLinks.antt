-- Two assignments with the same pairs within the ports of the modules that are not expanded give a finished run the same links.
use Rattle.std.proofs.Common.{◌≡◌, ℕ, ◌+◌, ◌<◌, Bool, true, false, cond, List, [], ◌∷◌, Option, Some, None, refl, ap, arith}
use Rattle.wf_model.specs.Lists.{IsIn, numbers_from}
use Rattle.wf_model.specs.Grammar.{Grammar, Assignment, inputs_of, outputs_of}
use Rattle.wf_model.specs.View.{View, expands}
use Rattle.wf_model.specs.declared.event.Event.{Event}
use Rattle.wf_model.specs.Run.{Instance, Expanded, expanded_by, seen_in, IsFinished}
use Rattle.wf_model.specs.Links.{input, output, pair_links, opened_links, links_of, links_with}
use Rattle.wf_model.proofs.Level.{in_numbers}
use Rattle.wf_model.proofs.Mapping.{flat_map_same}

pub pair_links_same : {A : Type 0} (g : Grammar) (d e : Assignment) (m : ℕ) (a : A) → ((i o : ℕ) → i < inputs_of g m → o < outputs_of g m → d m i o ≡ e m i o) → pair_links g d m a ≡ pair_links g e m a
pair_links_same g d e m a same =
    flat_map_same _ _ (numbers_from 0 (inputs_of g m)) (λ i hi.
    flat_map_same _ _ (numbers_from 0 (outputs_of g m)) (λ o ho.
    let ri : i < 0 + inputs_of g m = in_numbers i 0 (inputs_of g m) hi in
    let ro : o < 0 + outputs_of g m = in_numbers o 0 (outputs_of g m) ho in
    ap (λ b. cond b (record { from = input a i; to = output a o } ∷ []) []) (same i o (omega arith) (omega arith))))

module _ (g : Grammar) (u : View) (d e : Assignment) (m : ℕ) (events : List Event) (finished : IsFinished g u m events)
    (same : (k : ℕ) → expands u k ≡ false → (i o : ℕ) → i < inputs_of g k → o < outputs_of g k → d k i o ≡ e k i o) where
  one : (i : Instance) → IsIn i (seen_in g u m events) → links_of g u d events i ≡ links_of g u e events i
  one i h = go (expands u i.module_no) refl (expanded_by events i.name) refl
    where
      go : (b : Bool) → expands u i.module_no ≡ b → (x : Option Expanded) → expanded_by events i.name ≡ x →
          cond b (opened_links g d i x) (pair_links g d i.module_no i.name) ≡ cond b (opened_links g e i x) (pair_links g e i.module_no i.name)
      go true eb None ex = absurd (finished i (h, eb, ex))
      go true eb (Some x) ex = refl
      go false eb x ex = pair_links_same g d e i.module_no i.name (same i.module_no eb)

  -- a finished run has the same links by both
  pub same_links : links_with g u d m events ≡ links_with g u e m events
  same_links = flat_map_same _ _ (seen_in g u m events) one
