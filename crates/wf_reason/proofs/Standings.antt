-- How lines stand with one more, and what is said of lines that stand so.
use Rattle.std.proofs.Common.{◌≡◌, ◌⊎◌, ℕ, zero, suc, ◌<◌, ◌≤◌, List, [], ◌∷◌, ◌++◌, length, take, refl, sym, ap, ◌∙◌, subst, inl, inr, arith, length-append}
use Rattle.std.proofs.Math.Seq.{take-append_seam}
use Rattle.std.proofs.lemmas.List.{map-append, length-map, take_all, take-append-le}
use Rattle.wf_model.specs.Run.{Instance}
use Rattle.wf_model.specs.Items.{Item}
use Rattle.wf_flat.specs.declared.item.Item.{Item as ItemHeld}
use Rattle.wf_flat.specs.Table.{IsTableOf}
use Rattle.wf_flat.specs.Graph.{inst_at}
use Rattle.wf_safe.specs.SafeViews.{IsSafeView}
use Rattle.wf_chain.specs.ViewedRuns.{ViewedRunValue, grammar_in, view_in, full_in, events_in, item_in, IsVisibleIn}
use Rattle.wf_chain.specs.Steps.{GoesOn}
use Rattle.chain_model.specs.Chains.{IsStepFrom, Consumes}
use Rattle.wf_reason.specs.declared.naming.Consumer.{Consumer}
use Rattle.wf_reason.specs.declared.turn.Turn.{Turn}
use Rattle.wf_reason.specs.declared.turn.Turn.TheVariants.{Item as ItemTurn, Instance as ViaTurn}
use Rattle.wf_reason.specs.ChainLines.{ChainLine, ItemLine, ViaLine, next_turn, turn_behind}
use Rattle.wf_reason.specs.HandedIn.{HandedLine, said}
use Rattle.wf_reason.specs.Right.{LeadToInstance, AreRight, none, to_item, to_instance, AreOfChain}
use Rattle.wf_reason.specs.Checked.{IsCheckedText, yes, no, number_behind, last_of, yes_line, no_line}
use Rattle.wf_reason.specs.Standing.{IsConsumer, LeadTo, LeadInto, AreWrongAt, with_one}
use Rattle.wf_reason.proofs.Onward.{item_turn, instance_turn, first_leads, step_leads, instance_right, step_right}
use Rattle.wf_reason.proofs.OneText.{chain_longer, chain_or_one, no_chain_ends, all_right, wrong_behind}

-- the numbers of lines with one more
number_same : (last : ℕ) (lines : List HandedLine) (h : HandedLine) (k : ℕ) → k < length lines → number_behind last (lines ++ h ∷ []) k ≡ number_behind last lines k
number_same last [] h k l = absurd (omega arith)
number_same last (x ∷ xs) h zero l = refl
number_same last (x ∷ xs) h (suc k) l = number_same x.number xs h k (omega arith)

number_here : (last : ℕ) (lines : List HandedLine) (h : HandedLine) → number_behind last (lines ++ h ∷ []) (length lines) ≡ h.number
number_here last [] h = refl
number_here last (x ∷ xs) h = number_here x.number xs h

number_next : (last : ℕ) (lines : List HandedLine) → number_behind last lines (length lines) ≡ suc (last_of last lines)
number_next last [] = refl
number_next last (x ∷ xs) = number_next x.number xs

pub last_here : (last : ℕ) (lines : List HandedLine) (h : HandedLine) → last_of last (lines ++ h ∷ []) ≡ h.number
last_here last [] h = refl
last_here last (x ∷ xs) h = last_here x.number xs h

said_one : (lines : List HandedLine) (number : ℕ) (l : ChainLine) → said (with_one lines number l) ≡ said lines ++ l ∷ []
said_one lines number l = map-append (λ (h : HandedLine). h.says) lines (record { number = number; says = l } ∷ [])

said_many : (lines : List HandedLine) → length (said lines) ≡ length lines
said_many lines = length-map lines (λ (h : HandedLine). h.says)

turn_said : (t : Turn) (lines : List HandedLine) → turn_behind t (said lines) ≡ turn_behind t lines
turn_said t [] = refl
turn_said t (x ∷ xs) = turn_said (next_turn t) xs

longer : (lines : List HandedLine) (number : ℕ) (l : ChainLine) → length (with_one lines number l) ≡ suc (length lines)
longer lines number l = let n = length-append lines (record { number = number; says = l } ∷ []) in omega arith

module _ (v : ViewedRunValue) where
  abbrev Right : List ChainLine → Type 0
  Right = AreRight (grammar_in v) (view_in v) (full_in v) (grammar_in v).start (events_in v)

  -- right lines, and one more with which they are not right
  pub wrong_here : (lines : List HandedLine) (number : ℕ) (l : ChainLine) → Right (said lines) → ¬ Right (said lines ++ l ∷ []) → AreWrongAt v (with_one lines number l) number
  wrong_here lines number l right not =
      let more = longer lines number l in
      let size = said_many lines in
      let begin : take (length lines) (said (with_one lines number l)) ≡ said lines = ap (take (length lines)) (said_one lines number l) ∙ (ap (λ n. take n (said lines ++ l ∷ [])) (sym size) ∙ take-append_seam (said lines) (l ∷ [])) in
      let all : take (suc (length lines)) (said (with_one lines number l)) ≡ said lines ++ l ∷ [] =
      take_all (suc (length lines)) (said (with_one lines number l)) (let n = said_many (with_one lines number l) in omega arith) ∙ said_one lines number l in
      record {
        before = length lines;
        there = omega arith;
        number_is = sym (number_here 0 lines (record { number = number; says = l }));
        right = subst Right (sym begin) right;
        wrong = λ h. not (subst Right all h);
      }

  -- lines of which one is wrong stay so with one more
  pub wrong_on : (lines : List HandedLine) (number line : ℕ) (l : ChainLine) → AreWrongAt v lines line → AreWrongAt v (with_one lines number l) line
  wrong_on lines number line l h =
      let more = longer lines number l in
      let size = said_many lines in
      let there = h.there in
      let begin : (k : ℕ) → k ≤ length lines → take k (said (with_one lines number l)) ≡ take k (said lines) = λ k w. ap (take k) (said_one lines number l) ∙ take-append-le k (said lines) (l ∷ []) (omega arith) in
      record {
        before = h.before;
        there = omega arith;
        number_is = h.number_is ∙ sym (number_same 0 lines (record { number = number; says = l }) h.before h.there);
        right = subst Right (sym (begin h.before (omega arith))) h.right;
        wrong = λ q. h.wrong (subst Right (begin (suc h.before) (omega arith)) q);
      }

  -- an item that is visible, on a first line
  pub first_lead : (i : ItemHeld) (name : List ℕ) → IsVisibleIn v i → (item_in v i).name ≡ name → LeadTo v (ItemLine name ∷ []) i
  first_lead i name h e = subst (λ n. LeadTo v (ItemLine n ∷ []) i) e (first_leads (grammar_in v) (view_in v) (full_in v) (grammar_in v).start (events_in v) (item_in v i) h.held.there h.visible)

  -- lines that lead into an instance lead to it
  pub into : (lines : List ChainLine) (i : ItemHeld) (c : Consumer) → IsConsumer v i c → LeadInto v lines i c → LeadToInstance (grammar_in v) (view_in v) (full_in v) (grammar_in v).start (events_in v) lines (inst_at v.run.instances c.via)
  into lines i c consumer h = record { before = h.before; item = item_in v i; lead = h.lead; consumed = consumer.consumes.consumes; are = h.are }

  -- behind an item, an instance that consumes it
  pub instance_lead : (lines : List HandedLine) (number : ℕ) (i : ItemHeld) (c : Consumer) (name : List ℕ) → LeadTo v (said lines) i → (inst_at v.run.instances c.via).name ≡ name → LeadInto v (said (with_one lines number (ViaLine name))) i c
  instance_lead lines number i c name lead e = record {
    before = said lines;
    lead = lead;
    are = said_one lines number (ViaLine name) ∙ ap (λ n. said lines ++ ViaLine n ∷ []) (sym e);
  }

  -- behind an instance, an item to which it leads
  pub step_lead : (lines : List HandedLine) (number : ℕ) (i j : ItemHeld) (c : Consumer) (name : List ℕ) → LeadInto v (said lines) i c → GoesOn v i (record { via = c.via; item = j }) → (item_in v j).name ≡ name → LeadTo v (said (with_one lines number (ItemLine name))) j
  step_lead lines number i j c name h step e =
      subst (λ z. LeadTo v z j) (sym (said_one lines number (ItemLine name) ∙ ap (λ z. z ++ ItemLine name ∷ []) h.are))
      (subst (λ n. LeadTo v ((h.before ++ ViaLine (inst_at v.run.instances c.via).name ∷ []) ++ ItemLine n ∷ []) j) e
      (step_leads (grammar_in v) (view_in v) (full_in v) (grammar_in v).start (events_in v) h.before (item_in v i) (record { via = inst_at v.run.instances c.via; item = item_in v j }) h.lead step))

  pub step_longer : (lines : List HandedLine) (number : ℕ) (l : ChainLine) (i : ItemHeld) (c : Consumer) → LeadInto v (said lines) i c → 1 < length (with_one lines number l)
  step_longer lines number l i c h =
      let more = longer lines number l in
      let size = said_many lines in
      let n : length (said lines) ≡ length (h.before ++ ViaLine (inst_at v.run.instances c.via).name ∷ []) = ap (λ (z : List ChainLine). length z) h.are in
      let m = length-append h.before (ViaLine (inst_at v.run.instances c.via).name ∷ []) in
      omega arith

  -- behind lines that lead to an item it is the turn of an instance, and behind those that lead to an instance that of an item
  pub turn_of_item : (lines : List HandedLine) (i : ItemHeld) → LeadTo v (said lines) i → turn_behind ItemTurn lines ≡ ViaTurn
  turn_of_item lines i h = sym (turn_said ItemTurn lines) ∙ item_turn (grammar_in v) (view_in v) (full_in v) (grammar_in v).start (events_in v) (said lines) (item_in v i) h

  pub turn_of_instance : (lines : List HandedLine) (i : ItemHeld) (c : Consumer) → IsConsumer v i c → LeadInto v (said lines) i c → turn_behind ItemTurn lines ≡ ItemTurn
  turn_of_instance lines i c consumer h =
      sym (turn_said ItemTurn lines) ∙ instance_turn (grammar_in v) (view_in v) (full_in v) (grammar_in v).start (events_in v) (said lines) (inst_at v.run.instances c.via) (into (said lines) i c consumer h)

  module _ (safe : IsSafeView v.viewed) (run : IsTableOf (grammar_in v) v.run) where
    -- behind an item, a name that is not that of an instance which consumes it
    pub not_instance : (lines : List HandedLine) (number : ℕ) (i : ItemHeld) (name : List ℕ) → LeadTo v (said lines) i →
        ((n : Instance) → Consumes (grammar_in v) (view_in v) (grammar_in v).start (events_in v) (item_in v i) n → n.name ≡ name → ⊥) → AreWrongAt v (with_one lines number (ViaLine name)) number
    not_instance lines number i name lead lacks =
        wrong_here lines number (ViaLine name) (to_item (item_in v i) lead)
        (λ h. let r = instance_right (grammar_in v) (view_in v) (full_in v) (grammar_in v).start (events_in v) safe.accepted.formed run.accepted.0 (said lines) (item_in v i) (ViaLine name) lead h in lacks r.0 r.1 (same name r.0.name r.2))
      where
        same : (a b : List ℕ) → ◌≡◌ {A = ChainLine} (ViaLine a) (ViaLine b) → b ≡ a
        same a b e = cc

    -- behind an instance, a name that is not that of an item to which it leads
    pub not_item : (lines : List HandedLine) (number : ℕ) (i : ItemHeld) (c : Consumer) (name : List ℕ) → IsConsumer v i c → LeadInto v (said lines) i c →
        ((t : Item) → IsStepFrom (grammar_in v) (view_in v) (full_in v) (grammar_in v).start (events_in v) (item_in v i) (record { via = inst_at v.run.instances c.via; item = t }) → t.name ≡ name → ⊥) →
        AreWrongAt v (with_one lines number (ItemLine name)) number
    not_item lines number i c name consumer h lacks =
        wrong_here lines number (ItemLine name) (to_instance (inst_at v.run.instances c.via) (into (said lines) i c consumer h))
        (λ q. let r = step_right (grammar_in v) (view_in v) (full_in v) (grammar_in v).start (events_in v) safe.accepted.formed run.accepted.0 h.before (item_in v i) (inst_at v.run.instances c.via) (ItemLine name) h.lead
        consumer.consumes.consumes (subst (λ z. Right (z ++ ItemLine name ∷ [])) h.are q) in
        lacks r.0 r.1 (same name r.0.name r.2))
      where
        same : (a b : List ℕ) → ◌≡◌ {A = ChainLine} (ItemLine a) (ItemLine b) → b ≡ a
        same a b e = cc

  abbrev Said : List HandedLine → List ℕ → Type 0
  Said = IsCheckedText (grammar_in v) (view_in v) (full_in v) (grammar_in v).start (events_in v)

  -- what is said where all lines are right, and no chain ends with the last
  pub unended : (lines : List HandedLine) (last : ℕ) → last ≡ last_of 0 lines → Right (said lines) → ¬ AreOfChain (grammar_in v) (view_in v) (full_in v) (grammar_in v).start (events_in v) (said lines) → Said lines (no_line (suc last))
  unended lines last e right not =
      no (length (said lines)) (all_right (grammar_in v) (view_in v) (full_in v) (grammar_in v).start (events_in v) (said lines) right not)
      (ap no_line (ap suc e ∙ sym (ap (number_behind 0 lines) (said_many lines) ∙ number_next 0 lines)))

  pub none_said : (lines : List HandedLine) (last : ℕ) → lines ≡ [] → last ≡ last_of 0 lines → Said lines (no_line (suc last))
  none_said lines last empty e =
      unended lines last e (none (ap said empty))
      (λ c. let l = chain_longer (grammar_in v) (view_in v) (full_in v) (grammar_in v).start (events_in v) (said lines) c in let n : length (said lines) ≡ 0 = ap (λ z. length (said z)) empty in absurd (omega arith))

  pub one_alone : (lines : List HandedLine) (last : ℕ) (i : ItemHeld) → last ≡ last_of 0 lines → LeadTo v (said lines) i → length lines ≡ 1 → Said lines (no_line (suc last))
  one_alone lines last i e lead n =
      unended lines last e (to_item (item_in v i) lead) (λ c. let l = chain_longer (grammar_in v) (view_in v) (full_in v) (grammar_in v).start (events_in v) (said lines) c in let size = said_many lines in absurd (omega arith))

  pub at_instance : (lines : List HandedLine) (last : ℕ) (i : ItemHeld) (c : Consumer) → last ≡ last_of 0 lines → IsConsumer v i c → LeadInto v (said lines) i c → Said lines (no_line (suc last))
  at_instance lines last i c e consumer h =
      let at = into (said lines) i c consumer h in
      unended lines last e (to_instance (inst_at v.run.instances c.via) at) (no_chain_ends (grammar_in v) (view_in v) (full_in v) (grammar_in v).start (events_in v) (said lines) (inst_at v.run.instances c.via) at)

  -- what is said of lines that lead to an item by steps
  pub stepped_on : (lines : List HandedLine) (i : ItemHeld) → LeadTo v (said lines) i → 1 < length lines → Said lines yes_line
  stepped_on lines i lead n = go (chain_or_one (grammar_in v) (view_in v) (full_in v) (grammar_in v).start (events_in v) (said lines) (item_in v i) lead)
    where
      go : AreOfChain (grammar_in v) (view_in v) (full_in v) (grammar_in v).start (events_in v) (said lines) ⊎ (length (said lines) ≡ 1) → Said lines yes_line
      go (inl c) = yes c refl
      go (inr e) = let size = said_many lines in absurd (omega arith)

  -- what is said of lines of which one is wrong
  pub said_wrong : (lines : List HandedLine) (line : ℕ) → AreWrongAt v lines line → Said lines (no_line line)
  said_wrong lines line h =
      let size = said_many lines in
      let there = h.there in
      no h.before (wrong_behind (grammar_in v) (view_in v) (full_in v) (grammar_in v).start (events_in v) (said lines) h.before (omega arith) h.right h.wrong) (ap no_line h.number_is)
