use Rattle.std.proofs.Common.{Some, None, sym, ◌∙◌, lit<}
use Rattle.std.proofs.lemmas.Str.Pattern.{strip_prefix_char}
use Rattle.mp_types.proofs.Paths.{no_slash, bad_name, is_path}
use Rattle.mp_types.proofs.path.below_root.Goals as goal

pub returns-in_default : goal.returns-in_default
returns-in_default c = no_slash c.args.text.now (strip_prefix_char 47 c.args.text.now None c.in_default.ensures.cases (lit< tt))

pub returns-in-Some-first_bad_name : goal.returns-in-Some-first_bad_name
returns-in-Some-first_bad_name c =
    bad_name c.args.text.now c.in-Some.below.now c.in-Some-first_bad_name.place (strip_prefix_char 47 c.args.text.now (Some c.in-Some.below) c.in-Some.ensures.cases (lit< tt)) c.if-below-gt-MAX_KEY_LENGTH.false
    (sym c.is_empty.ensures ∙ c.if-is_empty.false) (sym c.in-Some-first_bad_name.ensures)

pub returns-in-None : goal.returns-in-None
returns-in-None c =
    is_path c.args.text.now c.in-Some.below.now (strip_prefix_char 47 c.args.text.now (Some c.in-Some.below) c.in-Some.ensures.cases (lit< tt)) c.if-below-gt-MAX_KEY_LENGTH.false
    (sym c.is_empty.ensures ∙ c.if-is_empty.false) (sym c.in-None.ensures)
