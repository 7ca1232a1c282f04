use Rattle.std.proofs.Common.{◌≡◌, ◌≤◌, ◌+◌, ◌++◌, length}
use Rattle.mac_decide.proofs.side_by_side.join.Given as goal

-- the replies so far, and those that are left of the others, are all, and have a place each
abbrev pub invariant-loop-reply : goal.invariant-loop-reply
invariant-loop-reply l = record {
  can_next : (goal.iterator-loop-reply).can_next l.reply-iterator;
  is_finite : (goal.iterator-loop-reply).is_finite l.reply-iterator;
  replies : l.replies.items ++ l.reply-iterator ≡ l.fn.replies.items ++ l.fn.others.items;
  places : length l.replies.items + length l.reply-iterator ≤ 32;
}
