use Rattle.std.proofs.Common.{◌≡◌, map}
use Rattle.macaroond.proofs.http.split_words.Given as goal

-- the words so far are the parts so far
abbrev pub invariant-loop-word : goal.invariant-loop-word
invariant-loop-word l = map (λ word. word.now) l.words.items ≡ map (λ part. part.now) l.yielded
