-- Why an input is refused, and the line that says so.
use Rattle.std.specs.Prelude.{ℕ, List, [], ◌∷◌, ◌++◌, codes, decimal}
use Rattle.orc_program.specs.declared.fault.Fault.{Fault}
use Rattle.orc_program.specs.declared.fault.Fault.TheVariants as fault
use Rattle.orc_elf.specs.declared.error.ElfError.{ElfError}
use Rattle.orc_elf.specs.declared.error.ElfError.TheVariants as elf
use Rattle.orc_image.specs.declared.error.ImageError.{ImageError}
use Rattle.orc_image.specs.declared.error.ImageError.TheVariants.{BadMagic, BadVersion, Short, BadField, Memory}
use Rattle.orc_job.specs.declared.error.JobError.{JobError}
use Rattle.orc_job.specs.declared.error.JobError.TheVariants as job
use Rattle.orc_job.specs.Fields.{name_of}
use Rattle.orcc_top.specs.declared.refusal.Refusal.{Refusal}
use Rattle.orcc_top.specs.declared.refusal.Refusal.TheVariants.{TooLong, Text, Pressure, Image, Object, Job}

-- a fault's name
abbrev pub fault_text : Fault → List ℕ
fault_text fault.BadByte = codes "BadByte"
fault_text fault.UnknownDirective = codes "UnknownDirective"
fault_text fault.WrongWords = codes "WrongWords"
fault_text fault.BadName = codes "BadName"
fault_text fault.BadNumber = codes "BadNumber"
fault_text fault.NoFunction = codes "NoFunction"
fault_text fault.Duplicate = codes "Duplicate"
fault_text fault.BadSize = codes "BadSize"
fault_text fault.TooMany = codes "TooMany"
fault_text fault.UnknownOpcode = codes "UnknownOpcode"
fault_text fault.Unsupported = codes "Unsupported"
fault_text fault.BadPrefix = codes "BadPrefix"
fault_text fault.UnknownName = codes "UnknownName"
fault_text fault.SizeMismatch = codes "SizeMismatch"
fault_text fault.NotWritable = codes "NotWritable"
fault_text fault.NotReadable = codes "NotReadable"
fault_text fault.NotArray = codes "NotArray"
fault_text fault.NotScalar = codes "NotScalar"
fault_text fault.NotAccumulator = codes "NotAccumulator"
fault_text fault.Unset = codes "Unset"

-- what an image is refused for; want of memory is no such cause
abbrev pub image_text : ImageError → List ℕ
image_text BadMagic = codes "BadMagic"
image_text BadVersion = codes "BadVersion"
image_text (Short need) = codes "Short " ++ decimal need
image_text (BadField at) = codes "BadField " ++ decimal at
image_text Memory = codes "Memory"

-- what an object is refused for; want of memory is no such cause
abbrev pub object_text : ElfError → List ℕ
object_text (elf.Short need) = codes "Short " ++ decimal need
object_text (elf.BadField at) = codes "BadField " ++ decimal at
object_text elf.Memory = codes "Memory"

-- what a job is refused for; want of memory is no such cause
abbrev pub job_text : JobError → List ℕ
job_text job.NotJson = codes "NotJson"
job_text (job.Missing field) = codes "Missing " ++ name_of field
job_text (job.BadField field) = codes "BadField " ++ name_of field
job_text (job.TooLarge field) = codes "TooLarge " ++ name_of field
job_text job.Overlap = codes "Overlap"
job_text job.Memory = codes "Memory"

abbrev pub text_of : Refusal → List ℕ
text_of TooLong = codes "TooLong"
text_of (Text line f) = codes "line " ++ decimal line ++ codes ": " ++ fault_text f
text_of (Pressure line need) = codes "line " ++ (decimal line ++ (codes ": Pressure " ++ decimal need))
text_of (Image e) = codes "image: " ++ image_text e
text_of (Object e) = codes "elf: " ++ object_text e
text_of (Job e) = codes "job: " ++ job_text e

-- the line, with its end
abbrev pub line_of : Refusal → List ℕ
line_of refusal = text_of refusal ++ 10 ∷ []
