-- Where a call on the queue stands.
use Rattle.wfe_core.specs.declared.post.Post.{Post}
use Rattle.wfe_core.specs.Calls.{Phase}
use Rattle.wfe_msqueue.specs.declared.enqueue.Enqueue.{Enqueue}
use Rattle.wfe_msqueue.specs.declared.dequeue.Dequeue.{Dequeue}
use Rattle.wfe_call_any.specs.declared.queueing.Queueing.{Queueing}
use Rattle.wfe_call_any.specs.declared.queueing.Queueing.TheVariants as names

abbrev pub queueing_phase : {S B P C F R : Type 0} {s : _} {b : _} {p : _} {c : _} {f : _} {r : _} → (Enqueue S B P C F R → Post → Phase) → (Dequeue S B P C F R s b p c f r → Post → Phase) → Queueing S B P C F R s b p c f r → Post → Phase
queueing_phase enqueue dequeue (names.Enqueues machine) post = enqueue machine post
queueing_phase enqueue dequeue (names.Dequeues machine) post = dequeue machine post
