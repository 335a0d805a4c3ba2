-- Lines are right, or they are not.
use Rattle.std.proofs.Common.{◌≡◌, ℕ, zero, suc, ◌<◌, ◌≤◌, List, [], ◌∷◌, ◌++◌, length, take, get_or, Option, Some, None, refl, sym, ap, ◌∙◌, subst, inl, inr, ⊎_elim, arith}
use Rattle.std.proofs.Math.Seq.{take-suc}
use Rattle.std.proofs.lemmas.Bool.{cases_lt}
use Rattle.std.proofs.lemmas.List.{take_all}
use Rattle.std.proofs.lemmas.Option.{same_Some}
use Rattle.wf_model.specs.Lists.{IsIn, Walk}
use Rattle.wf_model.specs.Grammar.{Grammar, Assignment, inputs_of}
use Rattle.wf_model.specs.WellFormed.{IsWellFormed}
use Rattle.wf_model.specs.View.{View}
use Rattle.wf_model.specs.declared.event.Event.{Event}
use Rattle.wf_model.specs.Run.{Instance, IsRun, seen_in}
use Rattle.wf_model.specs.Links.{Port, input}
use Rattle.wf_model.specs.Items.{Item, items, IsVisible}
use Rattle.wf_model.proofs.Deciding.{Either, either_same, either_both, either_not, bytes_either, some_below, some_in}
use Rattle.chain_model.specs.Chains.{entries_in, IsEntry, IsStepFrom, Consumes}
use Rattle.chain_model.proofs.ChainTests.{open_either, walk_open_either, visible_either, through_either}
use Rattle.wf_reason.specs.ChainLines.{ChainLine, ItemLine, ViaLine}
use Rattle.wf_reason.specs.Right.{LeadToItem, LeadToInstance, AreRight, none, to_item, to_instance, IsRightUpTo}
use Rattle.wf_reason.proofs.Onward.{first_leads, instance_leads, step_leads, first_right, instance_right, step_right, right_before}

item_line_either : (l : ChainLine) (name : List ℕ) → Either (l ≡ ItemLine name)
item_line_either (ItemLine a) name = either_same (λ e. ap ItemLine e) (λ e. cc) (bytes_either a name)
item_line_either (ViaLine a) name = inr (λ e. cc)

via_line_either : (l : ChainLine) (name : List ℕ) → Either (l ≡ ViaLine name)
via_line_either (ItemLine a) name = inr (λ e. cc)
via_line_either (ViaLine a) name = either_same (λ e. ap ViaLine e) (λ e. cc) (bytes_either a name)

module _ (g : Grammar) (u : View) (d : Assignment) (m : ℕ) (events : List Event) where
  consumed_either : (x : Item) (n : Instance) → IsIn n (seen_in g u m events) → Either (Consumes g u m events x n)
  consumed_either x n h = go x.consumed refl
    where
      go : (c : Option (Port (List ℕ))) → x.consumed ≡ c → Either (Consumes g u m events x n)
      go None e = inr (λ t. let z = sym e ∙ t.consumed in cc)
      go (Some from) e =
          either_same (λ q. record { seen = h; not_open = q.0; from = from; i = q.1.0; consumed = e; entries = q.1.2; input_there = q.1.1 })
          (λ t. (t.not_open, (t.i, t.input_there, subst (λ z. Walk (IsEntry g u m events) z (input n.name t.i)) (same_Some t.from from (sym t.consumed ∙ e)) t.entries)))
          (either_both (either_not (open_either g u m events n h))
          (some_below (λ i. Walk (IsEntry g u m events) from (input n.name i)) (inputs_of g n.module_no) (λ i hi. walk_open_either g u m events (entries_in g) from (input n.name i))))

  -- a first line
  first_either : (l : ChainLine) → Either ((x : Item) × IsIn x (items g m events) × (IsVisible g u m events x × (l ≡ ItemLine x.name)))
  first_either l = some_in (λ x. IsVisible g u m events x × (l ≡ ItemLine x.name)) (items g m events) (λ x h. either_both (visible_either g u m events x.maker) (item_line_either l x.name))

  -- a line behind an item
  instance_either : (y : Item) (l : ChainLine) → Either ((n : Instance) × IsIn n (seen_in g u m events) × (Consumes g u m events y n × (l ≡ ViaLine n.name)))
  instance_either y l = some_in (λ n. Consumes g u m events y n × (l ≡ ViaLine n.name)) (seen_in g u m events) (λ n h. either_both (consumed_either y n h) (via_line_either l n.name))

  -- a line behind an instance
  abbrev Onward : Item → Instance → Item → Type 0
  Onward y n t = IsStepFrom g u d m events y (record { via = n; item = t })

  onward_either : (y : Item) (n : Instance) (t : Item) → IsIn n (seen_in g u m events) → IsIn t (items g m events) → Either (Onward y n t)
  onward_either y n t hn ht =
      either_same (λ q. record { there = ht; visible = q.0; through = q.1 }) (λ q. (q.visible, q.through)) (either_both (visible_either g u m events t.maker) (through_either g u m events d y t n hn))

  step_either : (y : Item) (n : Instance) (l : ChainLine) → IsIn n (seen_in g u m events) → Either ((t : Item) × IsIn t (items g m events) × (Onward y n t × (l ≡ ItemLine t.name)))
  step_either y n l hn = some_in (λ t. Onward y n t × (l ≡ ItemLine t.name)) (items g m events) (λ t ht. either_both (onward_either y n t hn ht) (item_line_either l t.name))

  module _ (wf : IsWellFormed g) (run : IsRun g m events) where
    -- with one line more right lines are right, or they are not
    further_either : (lines : List ChainLine) (l : ChainLine) → AreRight g u d m events lines → Either (AreRight g u d m events (lines ++ l ∷ []))
    further_either lines l (none e) =
        subst (λ z. Either (AreRight g u d m events (z ++ l ∷ []))) (sym e) (either_same
        (λ q. to_item q.0 (subst (λ z. LeadToItem g u d m events (z ∷ []) q.0) (sym q.2.1) (first_leads g u d m events q.0 q.1 q.2.0)))
        (λ h. let r = first_right g u d m events l h in (r.0, r.1, (r.2, r.3))) (first_either l))
    further_either lines l (to_item y h) =
        either_same
        (λ q. to_instance q.0 (subst (λ z. LeadToInstance g u d m events (lines ++ z ∷ []) q.0) (sym q.2.1) (instance_leads g u d m events lines y q.0 h q.2.0)))
        (λ r. let w = instance_right g u d m events wf run lines y l h r in (w.0, w.1.seen, (w.1, w.2))) (instance_either y l)
    further_either lines l (to_instance n h) =
        subst (λ z. Either (AreRight g u d m events (z ++ l ∷ []))) (sym h.are) (either_same
        (λ q. to_item q.0 (subst (λ z. LeadToItem g u d m events ((h.before ++ ViaLine n.name ∷ []) ++ z ∷ []) q.0) (sym q.2.1) (step_leads g u d m events h.before h.item (record { via = n; item = q.0 }) h.lead q.2.0)))
        (λ r. let w = step_right g u d m events wf run h.before h.item n l h.lead h.consumed r in (w.0, w.1.there, (w.1, w.2))) (step_either h.item n l h.consumed.seen))

    one_more_either : (lines : List ChainLine) (k : ℕ) → Either (IsRightUpTo g u d m events lines k) → Either (IsRightUpTo g u d m events lines (suc k))
    one_more_either lines k r = ⊎_elim more all (cases_lt k (length lines))
      where
        go : Either (IsRightUpTo g u d m events lines k) → Either (AreRight g u d m events (take k lines ++ get_or lines k (ItemLine []) ∷ []))
        go (inl p) = further_either (take k lines) (get_or lines k (ItemLine [])) p
        go (inr n) = inr (λ h. n (right_before g u d m events (take k lines) (get_or lines k (ItemLine [])) h))

        more : k < length lines → Either (IsRightUpTo g u d m events lines (suc k))
        more h = subst (λ z. Either (AreRight g u d m events z)) (sym (take-suc lines k (ItemLine []) h)) (go r)

        all : length lines ≤ k → Either (IsRightUpTo g u d m events lines (suc k))
        all h = subst (λ z. Either (AreRight g u d m events z)) (take_all k lines h ∙ sym (take_all (suc k) lines (omega arith))) r

    pub up_to_either : (lines : List ChainLine) (k : ℕ) → Either (IsRightUpTo g u d m events lines k)
    up_to_either lines zero = inl (none refl)
    up_to_either lines (suc k) = one_more_either lines k (up_to_either lines k)

  -- if some lines are right, so are fewer
  one_less : (lines : List ChainLine) (k : ℕ) → k < length lines → IsRightUpTo g u d m events lines (suc k) → IsRightUpTo g u d m events lines k
  one_less lines k h r = right_before g u d m events (take k lines) (get_or lines k (ItemLine [])) (subst (AreRight g u d m events) (take-suc lines k (ItemLine []) h) r)

  pub right_down : (lines : List ChainLine) (j k : ℕ) → j ≤ k → k ≤ length lines → IsRightUpTo g u d m events lines k → IsRightUpTo g u d m events lines j
  right_down lines j zero h w r = none (let e : j ≡ 0 = omega arith in ap (λ n. take n lines) e)
  right_down lines j (suc k) h w r =
      ⊎_elim (λ l. right_down lines j k (omega arith) (omega arith) (one_less lines k (omega arith) r)) (λ l. let e : suc k ≡ j = omega arith in subst (IsRightUpTo g u d m events lines) e r) (cases_lt j (suc k))
