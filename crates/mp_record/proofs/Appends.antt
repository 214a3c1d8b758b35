-- What one write after another leaves in a sink.
use Rattle.std.proofs.Common.{◌≡◌, ℕ, ◌-◌, List, [], ◌++◌, length, take, drop, Option, Some, None, Ok, refl, sym, ◌∙◌, ap, subst, append_assoc, append-nil}
use Rattle.std.proofs.lemmas.List.{take-append-drop, take_rest}
use Rattle.mp_io.specs.Bytes.{Writes}
use Rattle.mp_record.specs.Appends.{Appends, AppendsBut, AppendsFront}

-- nothing is appended
Appends-nothing : (held : Option (List ℕ)) → Appends held [] held
Appends-nothing None = tt
Appends-nothing (Some held) = sym (append-nil held)

pub AppendsBut-nothing : (held : Option (List ℕ)) (text : List ℕ) → AppendsBut held text text held
AppendsBut-nothing held text = record { front = []; appended = Appends-nothing held; whole = refl }

pub AppendsFront-nothing : (held : Option (List ℕ)) (text : List ℕ) → AppendsFront held text held
AppendsFront-nothing held text = (text, AppendsBut-nothing held text)

-- one text appended, and then another
pub Appends-append : (held : Option (List ℕ)) (text : List ℕ) (now : Option (List ℕ)) (more : List ℕ) (after : Option (List ℕ)) → Appends held text now → Appends now more after → Appends held (text ++ more) after
Appends-append None text None more None one two = tt
Appends-append None text None more (Some after) one two = absurd two
Appends-append None text (Some now) more after one two = absurd one
Appends-append (Some held) text None more after one two = absurd one
Appends-append (Some held) text (Some now) more None one two = absurd two
Appends-append (Some held) text (Some now) more (Some after) one two = rw (two, one) (append_assoc held text more)

-- what a write appends
pub Appends-write : (held : Option (List ℕ)) (piece : List ℕ) (count : ℕ) (after : Option (List ℕ)) → Writes held piece (Ok count) after → Appends held (take count piece) after
Appends-write None piece count None writes = tt
Appends-write None piece count (Some after) writes = absurd writes
Appends-write (Some held) piece count None writes = absurd writes
Appends-write (Some held) piece count (Some after) writes = writes

-- the first part of the rest is appended
pub AppendsBut-less : (held : Option (List ℕ)) (text rest : List ℕ) (now : Option (List ℕ)) (piece left : List ℕ) (after : Option (List ℕ)) → AppendsBut held text rest now → Appends now piece after → piece ++ left ≡ rest → AppendsBut held text left after
AppendsBut-less held text rest now piece left after but more is =
    record { front = but.front ++ piece; appended = Appends-append held but.front now piece after but.appended more; whole = append_assoc but.front piece left ∙ (ap (λ t. but.front ++ t) is ∙ but.whole) }

-- the text and its rest go on
pub AppendsBut-more : (held : Option (List ℕ)) (text rest : List ℕ) (now : Option (List ℕ)) (more : List ℕ) → AppendsBut held text rest now → AppendsBut held (text ++ more) (rest ++ more) now
AppendsBut-more held text rest now more but =
    record { front = but.front; appended = but.appended; whole = sym (append_assoc but.front rest more) ∙ ap (λ t. t ++ more) but.whole }

-- after one write
pub AppendsBut-write : (held : Option (List ℕ)) (text rest : List ℕ) (now : Option (List ℕ)) (count : ℕ) (after : Option (List ℕ)) → AppendsBut held text rest now → Writes now rest (Ok count) after → AppendsBut held text (take (length rest - count) (drop count rest)) after
AppendsBut-write held text rest now count after but writes =
    rw (take_rest rest count) (AppendsBut-less held text rest now (take count rest) (drop count rest) after but (Appends-write now rest count after writes) (take-append-drop count rest))

-- the rest is appended but for a rest of it
pub AppendsBut-rest : (held : Option (List ℕ)) (text rest : List ℕ) (now : Option (List ℕ)) (left : List ℕ) (after : Option (List ℕ)) → AppendsBut held text rest now → AppendsBut now rest left after → AppendsBut held text left after
AppendsBut-rest held text rest now left after but more =
    AppendsBut-less held text rest now more.front left after but more.appended more.whole

-- a front of the rest is appended
pub AppendsFront-rest : (held : Option (List ℕ)) (text rest : List ℕ) (now after : Option (List ℕ)) → AppendsBut held text rest now → AppendsFront now rest after → AppendsFront held text after
AppendsFront-rest held text rest now after but front =
    (front.0, AppendsBut-less held text rest now front.1.front front.0 after but front.1.appended front.1.whole)

-- a front of a text is a front of a longer one
pub AppendsFront-more : (held : Option (List ℕ)) (text more whole : List ℕ) (now : Option (List ℕ)) → text ++ more ≡ whole → AppendsFront held text now → AppendsFront held whole now
AppendsFront-more held text more whole now is front =
    (front.0 ++ more, subst (λ (t : List ℕ). AppendsBut held t (front.0 ++ more) now) is (AppendsBut-more held text front.0 now more front.1))

-- one text is gathered behind another, and a front of what has been gathered is written
pub AppendsBut-then : (held now after : Option (List ℕ)) (text gathered more pushed left : List ℕ) → AppendsBut held text gathered now → pushed ≡ gathered ++ more → AppendsBut now pushed left after → AppendsBut held (text ++ more) left after
AppendsBut-then held now after text gathered more pushed left but is sent =
    AppendsBut-rest held (text ++ more) (gathered ++ more) now left after (AppendsBut-more held text gathered now more but) (rw is at sent)

pub AppendsFront-then : (held now after : Option (List ℕ)) (text gathered more pushed behind whole : List ℕ) → AppendsBut held text gathered now → pushed ≡ gathered ++ more → AppendsFront now pushed after → (text ++ more) ++ behind ≡ whole → AppendsFront held whole after
AppendsFront-then held now after text gathered more pushed behind whole but is sent are =
    AppendsFront-more held (text ++ more) behind whole after are
    (AppendsFront-rest held (text ++ more) (gathered ++ more) now after (AppendsBut-more held text gathered now more but) (rw is at sent))

-- what has been gathered is the rest of a text, and a front of it is written
pub AppendsFront-sent : (held now after : Option (List ℕ)) (text gathered whole : List ℕ) → text ≡ whole → AppendsBut held text gathered now → AppendsFront now gathered after → AppendsFront held whole after
AppendsFront-sent held now after text gathered whole is but sent =
    let front = AppendsFront-rest held text gathered now after but sent in
    (front.0, subst (λ (t : List ℕ). AppendsBut held t front.0 after) is front.1)
