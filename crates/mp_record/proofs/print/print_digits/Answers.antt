use Rattle.std.proofs.Common.{rules, ◌++◌, ◌∙◌, subst, arith, ℕ, List}
use Rattle.std.proofs.lemmas.List.{nil_from_length}
use Rattle.std.specs.Slice.Iter.{chunks_rest}
use Rattle.hex.specs.Hex.{encode_lower}
use Rattle.mp_record.specs.Appends.{AppendsBut}
use Rattle.mp_record.proofs.Appends.{AppendsBut-then, AppendsFront-more, AppendsFront-then}
use Rattle.mp_record.proofs.Replies.{piece_more, last_piece}
use Rattle.mp_record.proofs.print.print_digits.Goals as goal

pub returns-in_err-push_digits-clause-front : goal.returns-in_err-push_digits-clause-front
returns-in_err-push_digits-clause-front g c =
    AppendsFront-more _ _ _ _ _ c.loop-piece.invariant.is (c.loop-piece.gathered.items, c.loop-piece.invariant.appended)

pub loop-piece-preserved : goal.loop-piece-preserved
loop-piece-preserved g c = record {
  can_next = search rules;
  ends = tt;
  size = c.in-Some.ensures.steps.0 ∙ c.loop-piece.invariant.size;
  text = c.loop-piece.invariant.text ++ encode_lower c.in-Some.piece.now;
  is = piece_more c.loop-piece.invariant.text (chunks_rest c.loop-piece.piece-iterator) c.in-Some.piece.now (chunks_rest c.next.new.self) _ c.in-Some.ensures.steps.1.0 c.loop-piece.invariant.is;
  appended = AppendsBut-then _ _ _ c.loop-piece.invariant.text c.loop-piece.gathered.items (encode_lower c.in-Some.piece.now) _ _ c.loop-piece.invariant.appended c.in_ok-push_digits.ensures c.in_ok-send_full.ensures.rest;
  faults = omega (arith, c.send_full.ensures.faults_grow);
}

pub returns-in_err-send_full-clause-front : goal.returns-in_err-send_full-clause-front
returns-in_err-send_full-clause-front g c =
    AppendsFront-then _ _ _ c.loop-piece.invariant.text c.loop-piece.gathered.items (encode_lower c.in-Some.piece.now) _ (encode_lower (chunks_rest c.next.new.self)) _ c.loop-piece.invariant.appended c.in_ok-push_digits.ensures c.in_err-send_full.ensures.front
    (piece_more c.loop-piece.invariant.text (chunks_rest c.loop-piece.piece-iterator) c.in-Some.piece.now (chunks_rest c.next.new.self) _ c.in-Some.ensures.steps.1.0 c.loop-piece.invariant.is)

pub returns-clause-rest : goal.returns-clause-rest
returns-clause-rest g c =
    subst (λ (t : List ℕ). AppendsBut (g.K.Sink.held c.args.sink.now) t c.loop-piece.gathered.items (g.K.Sink.held c.loop-piece.sink))
    (last_piece c.loop-piece.invariant.text (chunks_rest c.loop-piece.piece-iterator) _ (nil_from_length _ c.in-None.ensures.steps.1.0) c.loop-piece.invariant.is) c.loop-piece.invariant.appended
