use Rattle.std.proofs.Common.{codes, ◌∙◌, ap, nat_eq}
use Rattle.std.specs.Cmp.Lexicographic.{pointwise}
use Rattle.mount_one.proofs.Words.{is_word}
use Rattle.mount_one.proofs.served.are_words.Goals as goal

pub returns-in-len1 : goal.returns-in-len1
returns-in-len1 c = is_word c.eq.result (codes "run") c.word-item.result c.args.words.now c.in-len1.len_at_least c.in-len1.len_below c.word-item.is (c.eq.ensures ∙ ap (λ w. pointwise nat_eq w (codes "run")) c.as_str.ensures)
