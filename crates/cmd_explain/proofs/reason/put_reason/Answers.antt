use Rattle.std.proofs.Common.{refl, inl, inr, true≢false, sym, ◌∙◌}
use Rattle.wf_chain.specs.ViewedRuns.{grammar_in, view_in, events_in, item_in}
use Rattle.cmd_explain.specs.Reasons.{IsReason}
use Rattle.cmd_explain.proofs.PutListings.{writes_only, writes_same}
use Rattle.cmd_explain.proofs.Told.{only, unknown_told, hidden_told}
use Rattle.cmd_explain.proofs.reason.put_reason.Goals as goal

pub returns-in_default : goal.returns-in_default
returns-in_default g c =
    let v = c.args.run.now in
    let is = unknown_told v c.run-run.ensures.safe c.run-run.ensures.table c.args.first.now c.args.second.now (inl (c.in_default.ensures.none refl)) in
    record { writes = writes_only _ _ is (only v c.run-run.ensures.safe c.run-run.ensures.table c.args.first.now c.args.second.now _ is) _ _ _ c.put_text.ensures.writes }

pub returns-in_default-find_item : goal.returns-in_default-find_item
returns-in_default-find_item g c =
    let v = c.args.run.now in
    let is = unknown_told v c.run-run.ensures.safe c.run-run.ensures.table c.args.first.now c.args.second.now (inr (c.in_default-find_item.ensures.none refl)) in
    record { writes = writes_only _ _ is (only v c.run-run.ensures.safe c.run-run.ensures.table c.args.first.now c.args.second.now _ is) _ _ _ c.put_text-in_default-find_item.ensures.writes }

pub returns-then-not-shows : goal.returns-then-not-shows
returns-then-not-shows g c =
    let v = c.args.run.now in
    let is = hidden_told v c.run-run.ensures.safe c.run-run.ensures.table c.args.first.now c.args.second.now c.in-Some.x c.in-Some-find_item.y
    c.in-Some.ensures.found c.in-Some.ensures.named c.in-Some-find_item.ensures.found c.in-Some-find_item.ensures.named (λ h. true≢false (sym (c.shows.ensures.1 h.0) ∙ c.if-not-shows.true)) in
    record { writes = writes_only _ _ is (only v c.run-run.ensures.safe c.run-run.ensures.table c.args.first.now c.args.second.now _ is) _ _ _ c.put_text-then-not-shows.ensures.writes }

pub returns-then-not-shows-2 : goal.returns-then-not-shows-2
returns-then-not-shows-2 g c =
    let v = c.args.run.now in
    let is = hidden_told v c.run-run.ensures.safe c.run-run.ensures.table c.args.first.now c.args.second.now c.in-Some.x c.in-Some-find_item.y
    c.in-Some.ensures.found c.in-Some.ensures.named c.in-Some-find_item.ensures.found c.in-Some-find_item.ensures.named (λ h. true≢false (sym (c.shows-2.ensures.1 h.1) ∙ c.if-not-shows-2.true)) in
    record { writes = writes_only _ _ is (only v c.run-run.ensures.safe c.run-run.ensures.table c.args.first.now c.args.second.now _ is) _ _ _ c.put_text-then-not-shows-2.ensures.writes }

pub shows-requires : goal.shows-requires
shows-requires g c = c.in-Some.ensures.found

pub shows-requires-2 : goal.shows-requires-2
shows-requires-2 g c = c.in-Some-find_item.ensures.found

pub put_chain-requires : goal.put_chain-requires
put_chain-requires g c = record {
  first = record { held = c.in-Some.ensures.found; visible = c.shows.ensures.0 c.if-not-shows.false };
  second = record { held = c.in-Some-find_item.ensures.found; visible = c.shows-2.ensures.0 c.if-not-shows-2.false };
}

pub returns : goal.returns
returns g c =
    let v = c.args.run.now in
    let R = IsReason (grammar_in v) (view_in v) (events_in v) in
    record {
      writes = writes_same (λ n. R n c.args.second.now) _ _ _ _ _ c.in-Some.ensures.named
          (writes_same (R (item_in v c.in-Some.x).name) _ _ _ _ _ c.in-Some-find_item.ensures.named c.put_chain.ensures.writes);
    }
