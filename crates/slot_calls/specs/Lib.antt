pub mod SlotCalls
