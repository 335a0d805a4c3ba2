-- What is said of worked lines.
use Rattle.std.proofs.Common.{◌≡◌, ℕ, ◌+◌, ◌<◌, List, [], ◌∷◌, ◌++◌, codes, get_or, refl, sym, ap, ◌∙◌, subst, inl, inr, arith}
use Rattle.std.proofs.lemmas.Fmt.{decimal_digit}
use Rattle.wf_model.specs.Lists.{IsIn}
use Rattle.wf_model.specs.Run.{Instance, IsRun}
use Rattle.wf_model.specs.Items.{Item, items}
use Rattle.wf_model.proofs.ItemNames.{item_of_name}
use Rattle.wf_laws.specs.LineGrammar.{line, all_pairs, whole_view, events, r_a, r_b, i1_y}
use Rattle.wf_laws.proofs.LineGrammar.{line_grammar_is_worked}
use Rattle.chain_model.specs.Chains.{LeadsThrough, Consumes}
use Rattle.chain_model.specs.Examples.{i1, i2, two_steps}
use Rattle.chain_model.proofs.OneInstance.{via_law}
use Rattle.chain_model.proofs.WorkedChains.{chains_are_worked}
use Rattle.wf_reason.specs.ChainLines.{ChainLine, ItemLine, ViaLine}
use Rattle.wf_reason.specs.Right.{LeadToItem, LeadToInstance, AreRight, none, to_item, to_instance}
use Rattle.wf_reason.specs.Checked.{yes, no, no_line}
use Rattle.wf_reason.specs.Examples.{through_first, LinesAreWorked}
use Rattle.wf_reason.proofs.Onward.{consumed_through, consumed_once, first_leads, instance_leads, first_right, instance_right, step_right, same_item}
use Rattle.wf_reason.proofs.OneText.{chain_longer, no_chain_ends, all_right, wrong_behind}

run : IsRun line 0 events
run = line_grammar_is_worked.accepted.0

first_through : LeadsThrough line whole_view all_pairs 0 events r_a i1 i1_y
first_through = chains_are_worked.of_two.steps_lead.0.through

second_through : LeadsThrough line whole_view all_pairs 0 events i1_y i2 r_b
second_through = chains_are_worked.of_two.steps_lead.1.0.through

-- the line of r.a leads to it, and i1 alone consumes it
at_first : LeadToItem line whole_view all_pairs 0 events (ItemLine (codes "r.a") ∷ []) r_a
at_first = first_leads line whole_view all_pairs 0 events r_a (inl refl) tt

by_i1 : Consumes line whole_view 0 events r_a i1
by_i1 = consumed_through line whole_view all_pairs 0 events r_a i1_y i1 first_through

at_i1 : LeadToInstance line whole_view all_pairs 0 events (ItemLine (codes "r.a") ∷ ViaLine (codes "i1") ∷ []) i1
at_i1 = instance_leads line whole_view all_pairs 0 events (ItemLine (codes "r.a") ∷ []) r_a i1 at_first by_i1

-- so a line behind that of r.a is right only if it names i1
only_i1 : (name : List ℕ) → AreRight line whole_view all_pairs 0 events (ItemLine (codes "r.a") ∷ ViaLine name ∷ []) → name ≡ codes "i1"
only_i1 name h =
    let r = instance_right line whole_view all_pairs 0 events line_grammar_is_worked.well_formed run (ItemLine (codes "r.a") ∷ []) r_a (ViaLine name) at_first h in
    let n : r.0 ≡ i1 = consumed_once line whole_view all_pairs 0 events run r_a r.0 i1 r.1 by_i1 in
    same name r.0.name r.2 ∙ ap (λ (z : Instance). z.name) n
  where
    same : (a b : List ℕ) → ◌≡◌ {A = ChainLine} (ViaLine a) (ViaLine b) → a ≡ b
    same a b e = cc

-- i1 and i2 are two
not_straight : LeadsThrough line whole_view all_pairs 0 events r_a i1 r_b → ⊥
not_straight h =
    let e : i1 ≡ i2 = (via_law line whole_view all_pairs 0 events run r_a r_b i1 i2).produced r_a i1_y h second_through in
    let z : 1 ≡ 2 = ap (λ (n : Instance). n.module_no) e in absurd (omega (arith, z))

no_r_c : (x : Item) → IsIn x (items line 0 events) → codes "r.c" ≡ x.name → ⊥
no_r_c x (inl e) q = absurd (let z : 99 ≡ 97 = ap (λ (l : List ℕ). get_or l 2 0) (q ∙ ap (λ (t : Item). t.name) e) in omega (arith, z))
no_r_c x (inr (inl e)) q = absurd (let z : 99 ≡ 98 = ap (λ (l : List ℕ). get_or l 2 0) (q ∙ ap (λ (t : Item). t.name) e) in omega (arith, z))
no_r_c x (inr (inr (inl e))) q = absurd (let z : 114 ≡ 105 = ap (λ (l : List ℕ). get_or l 0 0) (q ∙ ap (λ (t : Item). t.name) e) in omega (arith, z))
no_r_c x (inr (inr (inr e))) q = absurd e

not_i2 : codes "i2" ≡ codes "i1" → ⊥
not_i2 e = let z : 50 ≡ 49 = ap (λ (l : List ℕ). get_or l 1 0) e in absurd (omega (arith, z))

not_i3 : codes "i3" ≡ codes "i1" → ⊥
not_i3 e = let z : 51 ≡ 49 = ap (λ (l : List ℕ). get_or l 1 0) e in absurd (omega (arith, z))

-- r.b does not follow behind i1
not_r_b : AreRight line whole_view all_pairs 0 events (ItemLine (codes "r.a") ∷ ViaLine (codes "i1") ∷ ItemLine (codes "r.b") ∷ []) → ⊥
not_r_b h =
    let r = step_right line whole_view all_pairs 0 events line_grammar_is_worked.well_formed run (ItemLine (codes "r.a") ∷ []) r_a i1 (ItemLine (codes "r.b")) at_first by_i1 h in
    let t : r.0 ≡ r_b = item_of_name line 0 events line_grammar_is_worked.well_formed run r.0 r_b r.1.there (inr (inl refl)) (sym (same_item (codes "r.b") r.0.name r.2)) in
    not_straight (subst (LeadsThrough line whole_view all_pairs 0 events r_a i1) t r.1.through)

not_r_c : AreRight line whole_view all_pairs 0 events (ItemLine (codes "r.c") ∷ []) → ⊥
not_r_c h = let r = first_right line whole_view all_pairs 0 events (ItemLine (codes "r.c")) h in no_r_c r.0 r.1 (same_item (codes "r.c") r.0.name r.3)

no_line_of : (n : ℕ) → n < 10 → codes "no " ++ (48 + n) ∷ codes "\n" ≡ no_line n
no_line_of n h = ap (λ d. codes "no " ++ (d ++ codes "\n")) (sym (decimal_digit n h))

pub lines_are_worked : LinesAreWorked
lines_are_worked = record {
  of_chain = yes (record { from = r_a; steps = two_steps; to = r_b; chain = chains_are_worked.of_two; are = refl }) refl;
  wrong_via = no 1 (wrong_behind line whole_view all_pairs 0 events (through_first (codes "i2")) 1 (omega arith) (to_item r_a at_first) (λ h. not_i2 (only_i1 (codes "i2") h))) (no_line_of 2 (omega arith));
  unknown_via = no 1 (wrong_behind line whole_view all_pairs 0 events (through_first (codes "i3")) 1 (omega arith) (to_item r_a at_first) (λ h. not_i3 (only_i1 (codes "i3") h))) (no_line_of 2 (omega arith));
  wrong_item = no 2 (wrong_behind line whole_view all_pairs 0 events (ItemLine (codes "r.a") ∷ ViaLine (codes "i1") ∷ ItemLine (codes "r.b") ∷ []) 2 (omega arith) (to_instance i1 at_i1) not_r_b) (no_line_of 3 (omega arith));
  unknown_item = no 0 (wrong_behind line whole_view all_pairs 0 events (ItemLine (codes "r.c") ∷ []) 0 (omega arith) (none refl) not_r_c) (no_line_of 1 (omega arith));
  first_alone = no 1 (all_right line whole_view all_pairs 0 events (ItemLine (codes "r.a") ∷ []) (to_item r_a at_first) (λ c. let l = chain_longer line whole_view all_pairs 0 events (ItemLine (codes "r.a") ∷ []) c in absurd (omega arith))) (no_line_of 2 (omega arith));
  via_last = no 2 (all_right line whole_view all_pairs 0 events (ItemLine (codes "r.a") ∷ ViaLine (codes "i1") ∷ []) (to_instance i1 at_i1) (no_chain_ends line whole_view all_pairs 0 events (ItemLine (codes "r.a") ∷ ViaLine (codes "i1") ∷ []) i1 at_i1)) (no_line_of 3 (omega arith));
  no_lines = no 0 (all_right line whole_view all_pairs 0 events [] (none refl) (λ c. let l = chain_longer line whole_view all_pairs 0 events [] c in absurd (omega arith))) (no_line_of 1 (omega arith));
}
