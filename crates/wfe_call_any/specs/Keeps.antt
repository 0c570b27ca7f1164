-- Where a call on what is kept stands.
use Rattle.wfe_core.specs.declared.post.Post.{Post}
use Rattle.wfe_core.specs.Calls.{Phase}
use Rattle.wfe_bucketmap.specs.declared.Hold.{Hold}
use Rattle.wfe_bucketmap.specs.declared.Release.{Release}
use Rattle.wfe_bucketmap.specs.declared.CopyIndex.{CopyIndex}
use Rattle.wfe_bucketmap.specs.declared.Look.{Look}
use Rattle.wfe_bucketmap.specs.declared.DropIndex.{DropIndex}
use Rattle.wfe_call_any.specs.declared.keeping.Keeping.{Keeping}
use Rattle.wfe_call_any.specs.declared.keeping.Keeping.TheVariants as names

abbrev pub keeping_phase : {S B P C F R : Type 0} → (Hold S B P C F R → Post → Phase) → (Release S B P C F R → Post → Phase) → (CopyIndex S B P C F R → Post → Phase) → (Look S B P C F R → Post → Phase) → (DropIndex S B P C F R → Post → Phase) → Keeping S B P C F R → Post → Phase
keeping_phase hold release copy look drop (names.Holds machine) post = hold machine post
keeping_phase hold release copy look drop (names.Releases machine) post = release machine post
keeping_phase hold release copy look drop (names.Copies machine) post = copy machine post
keeping_phase hold release copy look drop (names.Looks machine) post = look machine post
keeping_phase hold release copy look drop (names.Drops machine) post = drop machine post
