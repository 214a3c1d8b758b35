-- The words that stand for a status's parts in its line on standard error.
use Rattle.std.specs.Prelude.{ℕ, List, codes}
use Rattle.mp_script.specs.declared.cause.ScriptCause.{ScriptCause}
use Rattle.mp_script.specs.declared.cause.ScriptCause.TheVariants.{Actor, Verb, Words, Handle, Number, Escape, Utf8, Key, Data}
use Rattle.mp_script.specs.declared.cause.What.{What}
use Rattle.mp_script.specs.declared.cause.What.TheVariants.{Bytes, Lines, Reads, Data as Stored}

abbrev pub cause_words : ScriptCause → List ℕ
cause_words Actor = codes "actor"
cause_words Verb = codes "verb"
cause_words Words = codes "words"
cause_words Handle = codes "handle"
cause_words Number = codes "number"
cause_words Escape = codes "escape"
cause_words Utf8 = codes "utf8"
cause_words Key = codes "key"
cause_words Data = codes "data"

abbrev pub what_words : What → List ℕ
what_words Bytes = codes "bytes"
what_words Lines = codes "lines"
what_words Reads = codes "reads"
what_words Stored = codes "data"
