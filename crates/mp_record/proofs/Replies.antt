-- The text of a reply, up to its data, its data and behind it.
use Rattle.std.proofs.Common.{◌≡◌, ℕ, List, [], ◌∷◌, ◌++◌, Option, codes, refl, sym, ◌∙◌, ap, subst, append_assoc, append-nil}
use Rattle.hex.specs.Hex.{encode_with, encode_lower}
use Rattle.mount_model.specs.declared.request.Reply.{Reply}
use Rattle.mount_model.specs.declared.request.Reply.TheVariants as reply
use Rattle.mount_model.specs.declared.event.Answered.{Answered}
use Rattle.mp_record.specs.RecordText.{said_text, reply_text}
use Rattle.mp_record.specs.Appends.{AppendsBut, AppendsFront}
use Rattle.mp_record.specs.ItemText.{data_in, said_start, reply_start}
use Rattle.mp_record.proofs.Appends.{AppendsBut-more, AppendsFront-more}

-- ---- digits of one piece after another

pub digits-append : (table before after : List ℕ) → encode_with table (before ++ after) ≡ encode_with table before ++ encode_with table after
unfolding encode_with
digits-append table [] after = refl
digits-append table (byte ∷ before) after = rw (digits-append table before after) refl

pub digits-none : encode_lower [] ≡ []
unfolding encode_with
digits-none = refl

pub piece_more : (text all piece rest whole : List ℕ) → all ≡ piece ++ rest → text ++ encode_lower all ≡ whole → (text ++ encode_lower piece) ++ encode_lower rest ≡ whole
piece_more text all piece rest whole are is =
    append_assoc text (encode_lower piece) (encode_lower rest) ∙ (ap (λ t. text ++ t) (sym (digits-append _ piece rest) ∙ ap encode_lower (sym are)) ∙ is)

pub last_piece : (text all whole : List ℕ) → all ≡ [] → text ++ encode_lower all ≡ whole → text ≡ whole
last_piece text all whole none is = sym (append-nil text) ∙ (ap (λ t. text ++ t) (sym digits-none ∙ ap encode_lower (sym none)) ∙ is)

-- ---- a reply

pub said_whole : (said : Reply) → said_start said ++ encode_lower (data_in said) ≡ said_text said
unfolding encode_with
said_whole (reply.Made etag) = append-nil _
said_whole reply.Success = refl
said_whole reply.Directory = refl
said_whole (reply.File size) = append-nil _
said_whole (reply.Writing size) = append-nil _
said_whole (reply.Listed entries) = append-nil _
said_whole (reply.Open size) = append-nil _
said_whole (reply.Wrote length) = append-nil _
said_whole (reply.Data bytes) = refl
said_whole reply.Gone = refl
said_whole (reply.Failed errno) = append-nil _

pub reply_whole : (before : List ℕ) (answered : Answered) → ((before ++ reply_start answered) ++ encode_lower (data_in answered.reply)) ++ codes "\n" ≡ before ++ reply_text answered
reply_whole before answered = rw (← said_whole answered.reply) (simp append_assoc)

-- what has been written of its line is a front of it
pub reply_front : (held after : Option (List ℕ)) (before : List ℕ) (answered : Answered) (started told : List ℕ) → started ≡ before ++ reply_start answered → told ≡ data_in answered.reply → AppendsFront held (started ++ encode_lower told) after → AppendsFront held (before ++ reply_text answered) after
reply_front held after before answered started told starts is front =
    AppendsFront-more held (started ++ encode_lower told) (codes "\n") (before ++ reply_text answered) after (rw (starts, is) (reply_whole before answered)) front

-- and all but what is gathered has been written once its end is gathered
pub reply_rest : (held after : Option (List ℕ)) (before : List ℕ) (answered : Answered) (started told gathered pushed : List ℕ) → started ≡ before ++ reply_start answered → told ≡ data_in answered.reply → AppendsBut held (started ++ encode_lower told) gathered after → pushed ≡ gathered ++ codes "\n" → AppendsBut held (before ++ reply_text answered) pushed after
reply_rest held after before answered started told gathered pushed starts is but ends =
    rw ends (subst (λ (t : List ℕ). AppendsBut held t (gathered ++ codes "\n") after) (rw (starts, is) (reply_whole before answered)) (AppendsBut-more held (started ++ encode_lower told) gathered after (codes "\n") but))
