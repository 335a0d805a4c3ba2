use Rattle.cmd_explain.proofs.PutListings.{listed_told, hidden_told, hidden_put, lines_put, lines_put_in_part, lines_cut}
use Rattle.std.proofs.Common.{refl}
use Rattle.cmd_explain.proofs.put.put_listed.Goals as goal

pub returns-in-Ok : goal.returns-in-Ok
returns-in-Ok g c = record {
  writes = λ u es y of held of_y y_is.
      let h = c.args.vl.now.grammar in
      let told = listed_told h u c.args.direction es y c.in-Ok-Listed.field-0 c.args.due.now c.list.new.due _ _ c.in-Ok-Listed.field-0-is (c.in-Ok-Listed.ensures.ok u es y of held of_y y_is) in
      lines_put h u c.args.direction es y told.0 c.args.due.now c.list.new.due _ _ _ c.requires.none told.1 c.in-Ok-Listed.ensures.same c.in-Ok.ensures.ok c.in-Ok.ensures.same;
}

pub returns-in-Err-put : goal.returns-in-Err-put
returns-in-Err-put g c = record {
  writes = λ u es y of held of_y y_is.
      let h = c.args.vl.now.grammar in
      let told = listed_told h u c.args.direction es y c.in-Ok-Listed.field-0 c.args.due.now c.list.new.due _ _ c.in-Ok-Listed.field-0-is (c.in-Ok-Listed.ensures.ok u es y of held of_y y_is) in
      lines_put_in_part h u c.args.direction es y told.0 c.args.due.now c.list.new.due _ _ _ c.requires.none told.1 c.in-Ok-Listed.ensures.same (c.in-Err-put.ensures.err refl) (c.in-Err-put.ensures.cause refl) c.in-Err-put.ensures.later;
}

pub returns-in-Ok-Hidden : goal.returns-in-Ok-Hidden
returns-in-Ok-Hidden g c = record {
  writes = λ u es y of held of_y y_is.
      let h = c.args.vl.now.grammar in
      let told = hidden_told h u c.args.direction es y c.in-Ok-Hidden.field-0 c.args.due.now c.list.new.due _ _ c.in-Ok-Hidden.field-0-is (c.in-Ok-Hidden.ensures.ok u es y of held of_y y_is) in
      hidden_put h u c.args.direction es y told.0 _ refl _ _ _ _ told.2 c.in-Ok-Hidden.ensures.same c.put_text.ensures.writes;
}

pub returns-in-Err : goal.returns-in-Err
returns-in-Err g c = record {
  writes = λ u es y of held of_y y_is.
      let h = c.args.vl.now.grammar in
      let cut = c.in-Err.ensures.err refl u es y of held of_y y_is in
      lines_cut h u c.args.direction es y cut.0 c.args.due.now _ _ c.requires.none cut.1 (c.in-Err.ensures.cause refl) c.in-Err.ensures.later;
}
