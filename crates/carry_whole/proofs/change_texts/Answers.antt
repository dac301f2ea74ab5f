-- `carry_whole::change_texts` meets its contract, by the cases of the change and the law of each. Assumes nothing.
use mathlib.Core.Path.{◌∙◌}
use borrow.Author.Rules.{rules}
use Rattle.carry_whole.proofs.Laid.{nothing_laid, name_laid, job_laid, texts_laid, id_laid, left_laid}
use Rattle.carry_whole.proofs.change_texts.Goals as goal

pub put_name-requires : goal.put_name-requires
put_name-requires c =
    let f = rw c.in-Name.is at c.requires.2 in
    search (rules, c.requires.1, f.0, f.1)

pub put_new-requires : goal.put_new-requires
put_new-requires c =
    let f = rw c.in-Job.is at c.requires.2 in
    search (rules, c.requires.1, f.0, f.1, f.2, f.3)

pub put_numbers-requires : goal.put_numbers-requires
put_numbers-requires c =
    let f = rw c.in-Texts.is at c.requires.2 in
    search (rules, c.requires.1, f.0, f.1, f.2)

pub put_id-requires : goal.put_id-requires
put_id-requires c =
    let f = rw c.in-Id.is at c.requires.2 in
    search (rules, c.requires.1, f.0, f.1)

pub put_left-requires : goal.put_left-requires
put_left-requires c =
    let f = rw c.in-Left.is at c.requires.2 in
    search (rules, c.requires.1, f)

pub returns-in-Nothing : goal.returns-in-Nothing
returns-in-Nothing c = nothing_laid _ c.requires.0 _ _ _ _ c.in-Nothing.is

pub returns-in-Name : goal.returns-in-Name
returns-in-Name c =
    let f = rw c.in-Name.is at c.requires.2 in
    c.put_name.ensures ∙ name_laid _ c.requires.0 _ _ _ _ _ c.in-Name.is f.0

pub returns-in-Job : goal.returns-in-Job
returns-in-Job c =
    let f = rw c.in-Job.is at c.requires.2 in
    c.put_new.ensures ∙ job_laid _ c.requires.0 _ _ _ _ _ _ c.in-Job.is f.0 f.1

pub returns-in-Texts : goal.returns-in-Texts
returns-in-Texts c =
    let f = rw c.in-Texts.is at c.requires.2 in
    c.put_numbers.ensures ∙ texts_laid _ c.requires.0 _ _ _ _ _ c.in-Texts.is f.0

pub returns-in-Id : goal.returns-in-Id
returns-in-Id c =
    let f = rw c.in-Id.is at c.requires.2 in
    c.put_id.ensures ∙ id_laid _ c.requires.0 _ _ _ _ _ c.in-Id.is f.0

pub returns-in-Left : goal.returns-in-Left
returns-in-Left c =
    let f = rw c.in-Left.is at c.requires.2 in
    c.put_left.ensures ∙ left_laid _ c.requires.0 _ _ _ _ _ c.in-Left.is f
