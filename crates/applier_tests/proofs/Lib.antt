mod ReplicaLemmas
