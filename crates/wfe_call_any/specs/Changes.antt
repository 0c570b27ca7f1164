-- Where a call stands that changes a bucket.
use Rattle.wfe_core.specs.declared.post.Post.{Post}
use Rattle.wfe_core.specs.Calls.{Phase}
use Rattle.wfe_bucketmap.specs.declared.put.Put.{Put}
use Rattle.wfe_bucketmap.specs.declared.put_if.PutIf.{PutIf}
use Rattle.wfe_bucketmap.specs.declared.remove.Remove.{Remove}
use Rattle.wfe_call_any.specs.declared.changing.Changing.{Changing}
use Rattle.wfe_call_any.specs.declared.changing.Changing.TheVariants as names

abbrev pub changing_phase : {S B P C F R : Type 0} → (Put S B P C F R → Post → Phase) → (PutIf S B P C F R → Post → Phase) → (Remove S B P C F R → Post → Phase) → Changing S B P C F R → Post → Phase
changing_phase put put_if remove (names.Puts machine) post = put machine post
changing_phase put put_if remove (names.PutsIf machine) post = put_if machine post
changing_phase put put_if remove (names.Removes machine) post = remove machine post
