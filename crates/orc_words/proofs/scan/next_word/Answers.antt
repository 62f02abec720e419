use Rattle.std.proofs.Common.{sym}
use Rattle.std.proofs.lemmas.List.{take_rest}
use Rattle.orc_words.proofs.Places.{no_word, word_at, last_word}
use Rattle.orc_words.proofs.scan.next_word.Goals as goal

pub returns-in-None : goal.returns-in-None
returns-in-None c = no_word c.args.line.now (sym c.in-None.ensures)

pub returns-in-Some-word_end : goal.returns-in-Some-word_end
returns-in-Some-word_end c =
    let k = simp take_rest at c.in-Some-word_end.ensures in
    simp take_rest (word_at c.args.line.now c.in-Some.start c.in-Some-word_end.end (sym c.in-Some.ensures) (sym k)).0

pub returns-in-None-word_end : goal.returns-in-None-word_end
returns-in-None-word_end c =
    let k = simp take_rest at c.in-None-word_end.ensures in
    simp take_rest (last_word c.args.line.now c.in-Some.start (sym c.in-Some.ensures) (sym k)).0
