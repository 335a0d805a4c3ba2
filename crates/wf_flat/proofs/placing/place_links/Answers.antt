use Rattle.std.proofs.Common.{◌+◌, ◌≤◌, ◌∙◌, ◌++◌, set, length, get_or, ap, subst, arith, length-set}
use Rattle.std.proofs.lemmas.List.{take_all}
use Rattle.wf_flat.specs.Numbering.{side_of, number_of}
use Rattle.wf_flat.specs.Leading.{IsIndex}
use Rattle.wf_flat.proofs.Numbers.{no_link, link_in}
use Rattle.wf_flat.proofs.Placed.{link_more}
use Rattle.wf_flat.proofs.placing.place_links.Goals as goal

pub number_of-from-requires : goal.number_of-from-requires
number_of-from-requires c =
    let k = c.loop-link.link-index in
    (c.requires.numbered (get_or c.args.links.now k no_link) (link_in c.args.links.now k c.loop-link-test.true)).0

pub number_of-requires : goal.number_of-requires
number_of-requires c =
    let k = c.loop-link.link-index in
    (c.requires.numbered (get_or c.args.links.now k no_link) (link_in c.args.links.now k c.loop-link-test.true)).1

pub index_mut-requires : goal.index_mut-requires
index_mut-requires c =
    let k = c.loop-link.link-index in
    let l = get_or c.args.links.now k no_link in
    let n = (c.requires.numbered l (link_in c.args.links.now k c.loop-link-test.true)).0 in
    let b = c.requires.below (side_of l.from + 1) in
    let e = c.number_of-from.ensures in
    let count = c.loop-link.invariant.count in
    let len = c.loop-link.words.ok.0 in
    omega arith

pub loop-link-preserved : goal.loop-link-preserved
loop-link-preserved c =
    let k = c.loop-link.link-index in
    let begins = c.args.begins.now in
    let links = c.args.links.now in
    let l = get_or links k no_link in
    let words = c.loop-link.words.items in
    let count = c.loop-link.invariant.count in
    let small = c.requires.small in
    let few : length words ≤ 2147483648 = omega arith in
    record {
      count = length-set words c.number_of-from.result c.number_of.result ∙ count;
      added = λ ls rows once i.
          link_more links ls begins words _ rows k c.loop-link-test.true once c.requires.numbered few
          (ap (λ n. set words n c.number_of.result) c.number_of-from.ensures ∙ ap (set words (number_of begins l.from)) c.number_of.ensures)
          (c.loop-link.invariant.added ls rows once i);
    }

pub returns-clause-added : goal.returns-clause-added
returns-clause-added c = λ ls rows once i.
    subst (λ l. IsIndex (ls ++ l) c.args.begins.now c.loop-link.words.items rows) (take_all c.loop-link.link-index c.args.links.now c.loop-link-test.false) (c.loop-link.invariant.added ls rows once i)
