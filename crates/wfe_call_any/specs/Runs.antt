-- Where a call of any kind stands.
use Rattle.wfe_core.specs.declared.post.Post.{Post}
use Rattle.wfe_core.specs.Calls.{Phase}
use Rattle.wfe_bucketmap.specs.declared.Get.{Get}
use Rattle.wfe_call_any.specs.declared.changing.Changing.{Changing}
use Rattle.wfe_call_any.specs.declared.queueing.Queueing.{Queueing}
use Rattle.wfe_call_any.specs.declared.keeping.Keeping.{Keeping}
use Rattle.wfe_bucketmap.specs.declared.Advance.{Advance}
use Rattle.wfe_scan.specs.declared.scan.Scan.{Scan}
use Rattle.wfe_call_any.specs.declared.running.Running.{Running}
use Rattle.wfe_call_any.specs.declared.running.Running.TheVariants as names

abbrev pub running_phase : {S B P C F R : Type 0} {s : _} {b : _} {p : _} {c : _} {f : _} {r : _} → (Get S B P C F R → Post → Phase) → (Changing S B P C F R → Post → Phase) → (Queueing S B P C F R s b p c f r → Post → Phase) → (Keeping S B P C F R → Post → Phase) → (Advance S B P C F R → Post → Phase) → (Scan → Post → Phase) → Running S B P C F R s b p c f r → Post → Phase
running_phase get change queue keep advance scan (names.Gets machine) post = get machine post
running_phase get change queue keep advance scan (names.Changes machine) post = change machine post
running_phase get change queue keep advance scan (names.Queues machine) post = queue machine post
running_phase get change queue keep advance scan (names.Keeps machine) post = keep machine post
running_phase get change queue keep advance scan (names.Advances machine) post = advance machine post
running_phase get change queue keep advance scan (names.Scans machine) post = scan machine post
