-- What contracts see of posts.
use Rattle.std.specs.Prelude.{◌≡◌, ℕ, Option, None, Some, List, [], ◌∷◌}
use Rattle.mac_queue.specs.Mail.{Mail}
use Rattle.mac_queue.specs.declared.mailbox.Handled.{Handled}
use Rattle.mac_queue.specs.declared.post.Post.{Post}
use Rattle.mac_queue.specs.declared.post.Post.TheVariants.{Answered, Failed}
use Rattle.mac_queue.specs.declared.receipt.Delivery.{Delivery}
use Rattle.mac_queue.specs.declared.receipt.Delivery.TheVariants.{Posted, Closed}

-- what a pass has put in, and what it has taken
abbrev pub handled : {Job : Type 0} → List (ℕ × Option Job) → List (ℕ × Option Job) → Handled Job
handled posted taken = record { posted = posted; taken = taken }

module _ {S Job Reply : Type 0} where
  -- a post as its place with its answer's job, or with none where memory ran out
  abbrev pub entry_of : Post S Job Reply → ℕ × Option Job
  entry_of (Answered place job) = (place, Some job)
  entry_of (Failed place) = (place, None)

  -- what shows that this post alone went into this mailbox, which was found open
  abbrev pub receipt_of : Mail → Post S Job Reply → Mail × List (ℕ × Option Job)
  receipt_of mail post = (mail, entry_of post ∷ [])

  -- the post went into this mailbox, or the mailbox was found closed
  abbrev pub IsDelivered : Mail → Post S Job Reply → Delivery S Job Reply → Type 0
  IsDelivered mail post (Posted receipt) = receipt ≡ receipt_of mail post
  IsDelivered mail post (Closed closed) = closed ≡ mail.closing
