use Rattle.std.proofs.Common.{◌≡◌, ◌+◌, ◌-◌, ◌++◌, length, take, drop, sym, ap, ◌∙◌, subst, arith}
use Rattle.std.proofs.lemmas.List.{length-take-le, length-drop, take_all}
use Rattle.label_file.proofs.Laid.{ends_laid}
use Rattle.label_file.proofs.laying.lay_ends.Goals as goal

pub returns : goal.returns
returns g c =
    let n = g.row.N in
    let part = c.args.part.now in
    let half = c.lay_whole.new.out in
    let new = c.lay_whole-2.new.out in
    let rest = length part - n in
    let place = c.args.at + rest in
    let first = ap (λ z. take (c.args.at + z) half) (sym (length-take-le n part c.requires.long)) ∙ c.lay_whole.ensures in
    let tail = take_all (length part - rest) (drop rest part) (omega (arith, length-drop rest part)) in
    let l : n ≡ length (drop rest part) = omega (arith, length-drop rest part, c.requires.long) in
    let last = ap (λ z. take (place + z) new) l ∙ subst (λ z. take (place + length z) new ≡ take place half ++ z) tail c.lay_whole-2.ensures in
    ends_laid c.args.out.now half new part c.args.at n rest (omega (arith, c.requires.long)) (omega (arith, c.requires.short)) (omega (arith, c.requires.room)) first last
